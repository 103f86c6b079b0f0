mod ChainSteps
