-- What a step leaves as it should be, and that there is one at most.
pub mod Landings
pub mod Licences
pub mod LineRules
pub mod OneStep
pub mod OneWay
pub mod OrderLines
pub mod OutcomesFit
pub mod OwnLines
pub mod StayLegal
pub mod StaySound
