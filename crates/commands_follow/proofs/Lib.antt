mod StepShown
mod CommandsShow
