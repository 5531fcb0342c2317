pub mod WholeLine
