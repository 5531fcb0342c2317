pub mod FindTurns
