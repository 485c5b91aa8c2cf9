-- references of any kind, the loop of each, and which two make a dependence
pub mod Graph
-- which two references of a table make a dependence, and its amounts
pub mod Dependence
-- the dependence graph of a table
pub mod TableGraph
-- chains of dependences, and the largest total over those that end at a loop
pub mod Chains
-- the largest total is one number, and when there is none
pub mod ChainLaws
-- shifts and peels that meet every dependence
pub mod Legal
-- legal numbers are above every chain
pub mod LegalLaws
-- dependences that given shifts and peels do not meet, and the first pair of loops with one
pub mod Unmet
-- by computation
pub mod UnmetKnown
-- the largest of several numbers
pub mod Maximum
-- laws of it
pub mod MaximumLaws
-- the numbers that one walk over the references gives
pub mod Walk
-- the walk over pairs of references: its steps, and what each changes
pub mod Steps
-- walks by computation
pub mod StepKnown
-- the largest sum of shift and peel of one loop
pub mod Threshold
-- how large shifts, peels and the threshold can be
pub mod Bounds
-- dependences where bounds play no part
pub mod Fewer
