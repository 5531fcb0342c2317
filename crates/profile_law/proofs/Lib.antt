pub mod AnyPage
