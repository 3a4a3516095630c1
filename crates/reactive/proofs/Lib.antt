mod Asking
mod Lent
mod LowSide
mod QuarterHour
mod Shares
