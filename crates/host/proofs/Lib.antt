pub mod RowPlaced
