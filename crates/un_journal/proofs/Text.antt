-- The text of a history: how it is made of its lines, read back, and no other's.
pub mod EntriesRead
pub mod LineParts
pub mod LinesRead
pub mod OneText
pub mod TracesRead
pub mod WordCuts
