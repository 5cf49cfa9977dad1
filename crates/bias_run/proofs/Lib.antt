pub mod StepByStep
