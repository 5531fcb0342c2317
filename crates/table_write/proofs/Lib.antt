pub mod RoomSteps
