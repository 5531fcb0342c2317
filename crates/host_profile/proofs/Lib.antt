pub mod ProfileTellings
