pub mod RowOfCode
