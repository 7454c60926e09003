pub mod ViewLaws
pub mod TurnLaws
pub mod WordLaws
pub mod SeatLaws
pub mod PairLaws
