-- What a reader must believe: the public contract, and what it cites.
pub mod Outcome
-- What private functions' contracts cite: the setting, an operation's decision, what comes at a place, the registers, the states that the code tracks, the answer at stop, the report.
pub mod Setting
pub mod Changes
pub mod Coming
pub mod Register
pub mod Tracking
pub mod Finishing
pub mod Reporting
