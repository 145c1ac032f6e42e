mod AxisLemmas
mod Drawn
mod HeatLemmas
mod HeatPrinted
mod Lists
mod Placed
mod Printed
mod Whole
