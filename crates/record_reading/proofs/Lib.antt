pub mod Cuts
pub mod Fronts
pub mod Judgements
pub mod LabelSteps
pub mod LabelsBack
pub mod LabelGrammar
pub mod Orders
