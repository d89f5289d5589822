-- How far the instances of a net are walked through.
use Rattle.std.specs.Prelude.{◌≡◌, ℕ, List, [], ◌∷◌, ◌++◌, drop, codes, Option, None, Some, slice_get}
use Rattle.netlist.specs.declared.netlist.Signal.{Signal}
use Rattle.netlist.specs.declared.netlist.Module.{Module}
use Rattle.verilog_meaning.specs.Names.{top_of}
use Rattle.verilog_meaning.specs.Cycles.{Path, module_at}
use Rattle.sim_values.specs.declared.edge.Part.{Part}
use Rattle.sim_values.specs.Stands.{place_of, spot_of}
use Rattle.sim_layout.specs.Running.{Running}
use Rattle.net_registers.specs.declared.walk.Frame as code
use Rattle.net_registers.specs.declared.listing.Listing.{Listing}
use Rattle.net_registers.specs.Marks.{Mark, Leave, Adds, AreMarks}
use Rattle.net_registers.specs.Heads.{Grows, HasLine, HasOwn, scope_line}

-- an instance that is entered and not left, and the number of the next one in it
pub record Frame (modules : List Module) (top : Module) : Type 0 where
  pub path : Path
  pub kind : Module
  pub stands : module_at modules top path ≡ Some kind
  pub next : ℕ

module _ (modules : List Module) (top : Module) where
  abbrev pub frame_of : List Part → Frame modules top → code.Frame
  frame_of parts f = record { part = place_of parts f.path; next = f.next }

  -- the innermost frame stands last
  abbrev pub IsStack : List Part → List code.Frame → List (Frame modules top) → Type 0
  IsStack parts items [] = items ≡ []
  IsStack parts items (f ∷ frames) = (below : List code.Frame) × (items ≡ below ++ frame_of parts f ∷ []) × IsStack parts below frames

  -- the marks that are left
  abbrev pub Rests : List (Frame modules top) → List Mark → Type 0
  Rests [] marks = marks ≡ []
  Rests (f ∷ frames) marks =
      (inner : List Mark) × (rest : List Mark) × Adds modules f.path f.next (drop f.next f.kind.instances) inner × Rests frames rest × (marks ≡ inner ++ Leave ∷ rest)

-- the line that a head begins with, and no registers
abbrev pub first_listing : Listing
first_listing = record { head = codes "$timescale 1 ns $end" ++ 10 ∷ []; places = []; widths = [] }

-- the instances that are entered are on the stack, and what is listed needs only what is left in them
pub record IsWalk (r : Running) (items : List code.Frame) (listing : Listing) : Type 0 where
  pub top : Module
  pub is_top : top_of r.modules ≡ Some top
  pub frames : List (Frame r.modules top)
  pub stack : IsStack r.modules top r.parts items frames
  pub marks : List Mark
  pub grown : Grows r.modules top r.parts first_listing listing marks
  pub closes : (rest : List Mark) → Rests r.modules top frames rest → AreMarks r.modules (marks ++ rest)

-- the scope of an instance begins, with its registers
pub record HasScope (old new : Listing) (name : List ℕ) (base : ℕ) (signals : List Signal) : Type 0 where
  pub between : Listing
  pub line : HasLine old between (scope_line name)
  pub own : HasOwn between new base signals

-- a module is entered at a place among the parts
pub record Enters (parts : List Part) (name : List ℕ) (child : ℕ) (m : Module) (items more : List code.Frame) (old new : Listing) : Type 0 where
  pub pushed : more ≡ items ++ record { part = child; next = 0 } ∷ []
  pub scope : HasScope old new name (spot_of (slice_get parts child)).base m.signals

-- the same if there is that module
abbrev pub EntersSome : List Part → List ℕ → ℕ → Option Module → List code.Frame → List code.Frame → Listing → Listing → Type 0
EntersSome parts name child None items more old new = (more ≡ items) × (new ≡ old)
EntersSome parts name child (Some m) items more old new = Enters parts name child m items more old new
