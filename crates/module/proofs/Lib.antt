pub mod OpenedOutputs
