use Rattle.program_bodies.proofs.Bodies.{laid_are_bodies, laid_main_stays}
use Rattle.program_bodies.proofs.Served.{codes_are_served}
use Rattle.program_bodies.proofs.laid_are_bodies.Goals as goal

pub returns-clause-bodies : goal.returns-clause-bodies
returns-clause-bodies c = laid_are_bodies

pub returns-clause-main : goal.returns-clause-main
returns-clause-main c = laid_main_stays

pub returns-clause-served : goal.returns-clause-served
returns-clause-served c = codes_are_served
