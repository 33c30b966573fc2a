mod PlacedWhole
mod SharedWhole
mod StrategicWhole
