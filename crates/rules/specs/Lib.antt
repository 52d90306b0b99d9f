-- The definitions, in the order of document 01.
pub mod Bytes
pub mod Tests
pub mod Plan
pub mod Number
pub mod Lines
pub mod Fields
pub mod Refusals
pub mod HeaderLine
pub mod ActivityLine
pub mod Order
pub mod Warmup
pub mod Hold
pub mod MeetsW
pub mod MeetsD
pub mod MeetsU
pub mod MeetsS
pub mod Load
pub mod MeetsE
pub mod MeetsP
pub mod MeetsB
pub mod MeetsV
pub mod MeetsH
pub mod Conditions
pub mod Answer
pub mod Outcomes
pub mod Kept
pub mod Reading
pub mod Runs
pub mod Report
pub mod Calls
-- What the theorems say, without the algorithms.
pub mod OrderRight
pub mod RunsRight
pub mod ProjectionRight
pub mod DistanceRight
pub mod Demand
pub mod Print
pub mod WellFormed
pub mod Acceptance
pub mod Forms
pub mod Faults
pub mod Determined
-- The plan as the code holds it.
pub mod Ordered
-- For proofs alone.
pub mod Open
