-- The paper's worked cases, computed (Cases, Program), and what the promises forbid on named inputs (Not, ProgramNot, RadioNot). Nothing rests on this crate.
pub mod Not
pub mod Cases
pub mod Program
pub mod ProgramNot
pub mod RadioNot
pub mod FramesNot
