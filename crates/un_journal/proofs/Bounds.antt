-- How many lines and bytes a history can have, and what the ranges of the parameters give.
pub mod ByteBound
pub mod LineBound
pub mod Parameters
pub mod StepRoom
