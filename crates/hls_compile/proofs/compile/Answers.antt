use Rattle.std.proofs.Common.{subst, sym, ◌∙◌}
use Rattle.c_program.specs.Plain.{program_of}
use Rattle.program_bodies.specs.Plans.{ArePlanned}
use Rattle.hls_compile.specs.Plans.{RunPlanned}
use Rattle.program_cores.proofs.Cores.{few_threads}
use Rattle.hls_compile.proofs.compile.Goals as goal

pub written-requires : goal.written-requires
written-requires g c = record {
  resolved = c.in_ok-accepted.ensures.resolved;
  limits = c.in_ok-accepted.ensures.limits;
  threads = c.deref-2.ensures.value ∙ c.in_ok-accepted.ensures.functions;
  planned = subst (ArePlanned (program_of c.in_ok-accepted.accepted.program)) (sym c.as_slice.ensures) c.in_ok-plans.ensures;
}

pub plan_functions-requires-clause-threads : goal.plan_functions-requires-clause-threads
plan_functions-requires-clause-threads g c κs within = c.deref.ensures.value ∙ c.in_ok-accepted.ensures.functions

pub plan_functions-requires-clause-weight : goal.plan_functions-requires-clause-weight
plan_functions-requires-clause-weight g c κs within = c.in_ok-accepted.ensures.ok.within.weighs

pub returns-clause-ok : goal.returns-clause-ok
returns-clause-ok g c = record {
  accepted = c.in_ok-accepted.ensures.ok;
  few = few_threads (program_of c.in_ok-accepted.accepted.program) c.in_ok-accepted.ensures.limits;
  good = c.in_ok-written.ensures.good.good;
  net = c.in_ok-written.ensures.good.net;
  portable = c.in_ok-written.ensures.good.portable;
  threaded = c.in_ok-written.ensures.good.threaded;
  modules = c.in_ok-written.ensures.good.modules;
  served = c.in_ok-written.ensures.good.served;
}

pub returns-clause-plans : goal.returns-clause-plans
returns-clause-plans g c = record {
  planned = c.in_ok-plans.ensures;
  run = subst (RunPlanned (program_of c.in_ok-accepted.accepted.program) c.in_ok-written.written.net) c.as_slice.ensures c.in_ok-written.ensures.run;
}
