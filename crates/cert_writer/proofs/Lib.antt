pub mod LinePuts
pub mod TextPuts
