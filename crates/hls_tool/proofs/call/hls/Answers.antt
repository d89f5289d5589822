use Rattle.hls_commands.specs.Inside.{due_of}
use Rattle.hls_tool.proofs.RefusedLemmas.{tells_refusal}
use Rattle.hls_tool.proofs.CompleteLemmas.{completes}
use Rattle.hls_tool.proofs.DeliveryLemmas.{may_be_owed}
use Rattle.hls_tool.proofs.WalkLemmas.{tells_end}
use Rattle.hls_tool.proofs.CheckLemmas.{checks}
use Rattle.hls_tool.proofs.RunLemmas.{checks_run, tells_race, tells_undefined, tells_unknown}
use Rattle.hls_tool.proofs.GeneratedLemmas.{generates, tells_read_fault}
use Rattle.hls_tool.proofs.SimLemmas.{simulates, tells_doubt, tells_loop, tells_not_net}
use Rattle.hls_tool.proofs.StepLemmas.{as_step}
use Rattle.hls_tool.proofs.call.hls.Goals as goal

pub returns-clause-answered : goal.returns-clause-answered
returns-clause-answered g c = record {
  owed = due_of c.answer-answer.result;
  owes = c.answer-answer.ensures.owes;
  ends = c.deliver.ensures.ends;
  text = c.deliver.ensures.text;
  journal = c.deliver.ensures.journal;
}

pub returns-clause-refuses : goal.returns-clause-refuses
returns-clause-refuses g c = λ whole r left refused. tells_refusal _ _ _ _ _ _ whole r (returns-clause-answered g c) left refused

pub returns-clause-completes : goal.returns-clause-completes
returns-clause-completes g c = λ task P asked calm out err. completes _ _ _ _ _ _ task P (returns-clause-answered g c) asked calm out err

pub returns-clause-tells_end : goal.returns-clause-tells_end
returns-clause-tells_end g c = λ turns P end output asked walk. tells_end _ _ _ _ _ _ turns P (returns-clause-answered g c) asked end output walk

pub returns-clause-not_net : goal.returns-clause-not_net
returns-clause-not_net g c = λ offset e. tells_not_net _ _ _ _ _ _ (returns-clause-answered g c) offset e

pub returns-clause-loops : goal.returns-clause-loops
returns-clause-loops g c = λ signal e. tells_loop _ _ _ _ _ _ (returns-clause-answered g c) signal e

pub returns-clause-doubt : goal.returns-clause-doubt
returns-clause-doubt g c = λ offset name e. tells_doubt _ _ _ _ _ _ (returns-clause-answered g c) offset name e

pub returns-clause-race : goal.returns-clause-race
returns-clause-race g c = λ first second name e. tells_race _ _ _ _ _ _ (returns-clause-answered g c) first second name e

pub returns-clause-undefined_step : goal.returns-clause-undefined_step
returns-clause-undefined_step g c = λ offset cause e. tells_undefined _ _ _ _ _ _ (returns-clause-answered g c) offset cause e

pub returns-clause-unknown : goal.returns-clause-unknown
returns-clause-unknown g c = λ steps cause e. tells_unknown _ _ _ _ _ _ (returns-clause-answered g c) steps cause e

pub returns-clause-checks_run : goal.returns-clause-checks_run
returns-clause-checks_run g c = λ most P asked. checks_run _ _ _ _ _ _ most P (returns-clause-answered g c) asked

pub returns-clause-read_fault : goal.returns-clause-read_fault
returns-clause-read_fault g c = λ e. tells_read_fault _ _ _ _ _ _ (returns-clause-answered g c) e

pub returns-clause-generates : goal.returns-clause-generates
returns-clause-generates g c = λ seed threads size most asks. generates _ _ _ _ _ _ seed threads size most (returns-clause-answered g c) asks

pub returns-clause-checks : goal.returns-clause-checks
returns-clause-checks g c = λ P asked. checks _ _ _ _ _ _ P (returns-clause-answered g c) asked

pub returns-clause-simulates : goal.returns-clause-simulates
returns-clause-simulates g c = λ most text asked. simulates _ _ _ _ _ _ most text (returns-clause-answered g c) asked

pub returns-clause-as_step : goal.returns-clause-as_step
returns-clause-as_step g c = λ most c_text d s stepped short asked. as_step most c_text d s stepped short _ _ _ _ _ _ (returns-clause-answered g c) asked

pub deliver-requires : goal.deliver-requires
deliver-requires g c = may_be_owed _ _ _ (due_of c.answer-answer.result) _ c.answer-answer.ensures.owes
