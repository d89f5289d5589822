pub mod Program
pub mod GoodVerilog
