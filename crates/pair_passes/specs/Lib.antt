pub mod PairDown
