pub mod Legal
pub mod FrameLaws
