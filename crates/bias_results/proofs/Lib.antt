pub mod RequestBack
