pub mod PointFault
