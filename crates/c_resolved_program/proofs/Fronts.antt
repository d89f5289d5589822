-- What is known at some place of a text is a part of what is known behind it.
use Rattle.c_resolution.specs.Files.{Tables, File}
use Rattle.c_resolved_program.specs.Orders.{IsFront, IsPartOf}
use Rattle.c_resolved_program.proofs.GrownScope.{front_same, front_on}

-- the program so far is a front of the program
pub record AreFronts (t u : Tables) : Type 0 where
  pub functions : IsFront t.functions u.functions
  pub globals : IsFront t.globals u.globals
  pub threads : IsFront t.threads u.threads
  pub mutexes : IsFront t.mutexes u.mutexes
  pub barriers : IsFront t.barriers u.barriers

pub fronts_same : (t : Tables) → AreFronts t t
fronts_same t = record {
  functions = front_same t.functions;
  globals = front_same t.globals;
  threads = front_same t.threads;
  mutexes = front_same t.mutexes;
  barriers = front_same t.barriers;
}

pub fronts_on : (t u v : Tables) → AreFronts t u → AreFronts u v → AreFronts t v
fronts_on t u v h k = record {
  functions = front_on t.functions u.functions v.functions h.functions k.functions;
  globals = front_on t.globals u.globals v.globals h.globals k.globals;
  threads = front_on t.threads u.threads v.threads h.threads k.threads;
  mutexes = front_on t.mutexes u.mutexes v.mutexes h.mutexes k.mutexes;
  barriers = front_on t.barriers u.barriers v.barriers h.barriers k.barriers;
}

pub record IsWithin (X x : File) : Type 0 where
  pub found : IsPartOf X.found x.found
  pub tables : AreFronts x.tables X.tables
  pub headers : IsFront x.scope.headers X.scope.headers
