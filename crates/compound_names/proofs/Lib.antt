pub mod NameScan
