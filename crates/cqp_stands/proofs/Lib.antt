pub mod StandingRun
