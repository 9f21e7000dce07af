-- What an evaluator keeps and owes. Pending says what a list of pending work and a stack of values still do, in the words
-- of the meaning; Plans, which smaller tasks stand in the place of one; Work, that they weigh less; Sound, that they can
-- run. Stack, TaskViews and Runs say what the evaluator's state stands for. None of this is needed to believe the contract
-- of the evaluator, which is the meaning itself.
pub mod Pending
pub mod Plans
pub mod Work
pub mod Sound
pub mod Fault
pub mod Stack
pub mod TaskViews
pub mod Runs
pub mod Leaves
pub mod Access
pub mod Lifetimes
pub mod Told
pub mod Operators
pub mod Finishing
pub mod Entering
pub mod Puts
pub mod Owes
pub mod Jumping
pub mod Limits
pub mod Ending
pub mod Starting
