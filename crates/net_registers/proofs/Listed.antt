-- The whole head, and all registers of a net.
use Rattle.std.proofs.Common.{◌≡◌, refl, sym, ap, ◌∙◌, subst, ℕ, zero, suc, List, [], ◌∷◌, ◌++◌, map, length, slice_get, append_assoc, ◌<◌, ◌≤◌, ◌^◌, arith}
use Rattle.std.proofs.lemmas.Option.{same_Some}
use Rattle.netlist.specs.declared.netlist.Module.{Module}
use Rattle.verilog_meaning.specs.Cycles.{IsState}
use Rattle.std.specs.Prelude.{codes, option_map, slice_index}
use Rattle.std.specs.List.{All, AllByRecursion}
use Rattle.std.proofs.lemmas.List.Elements.{All-from_recursion}
use Rattle.std.proofs.lemmas.List.{length-map}
use Rattle.sim_layout.specs.Running.{Running, Stands, IsRight, state_of}
use Rattle.vcd_text.specs.Dump.{AreValues}
use Rattle.vcd_text.specs.Recover.{unlines, IsHeadLine}
use Rattle.net_registers.specs.declared.listing.Listing.{Listing}
use Rattle.net_registers.specs.Marks.{Register, registers_of}
use Rattle.net_registers.specs.Heads.{place_of, width_of, number_in, lines_from, head_lines, HasLine, IsListing, IsOfNet}
use Rattle.net_registers.specs.Walks.{IsWalk}
use Rattle.net_registers.proofs.RegisterGrowth.{unlines_append, all_append}
use Rattle.net_registers.proofs.HeadLines.{timescale_is, definitions_is}
use Rattle.net_registers.proofs.InstanceWalk.{walked}

pub listed : (r : Running) (old new : Listing) → IsWalk r [] old → HasLine old new (codes "$enddefinitions $end") → IsListing r new
listed r old new w h =
    let is = walked r old w in
    let lines = lines_from 0 is.marks in
    record {
      marks = is.marks;
      are = is.are;
      head =
          h.head ∙ ap (λ (l : List ℕ). l ++ (codes "$enddefinitions $end" ++ 10 ∷ [])) is.grown.head
          ∙ append_assoc (codes "$timescale 1 ns $end" ++ 10 ∷ []) (unlines lines) (codes "$enddefinitions $end" ++ 10 ∷ [])
          ∙ ap (λ (l : List ℕ). (codes "$timescale 1 ns $end" ++ 10 ∷ []) ++ l) (sym (unlines_append lines (codes "$enddefinitions $end" ∷ [])));
      lines = All-from_recursion IsHeadLine (head_lines is.marks) (timescale_is, all_append IsHeadLine lines (codes "$enddefinitions $end" ∷ []) is.grown.lines (definitions_is, tt));
      places = h.places ∙ is.grown.places;
      widths = h.widths ∙ is.grown.widths;
      top = is.top;
      is_top = is.is_top;
      net = is.grown.net;
    }

-- the numbers at the places are those of the state
pub numbers_are : (r : Running) (gs : List Register) → map (slice_index r.numbers) (map (place_of r.parts) gs) ≡ map (number_in (state_of r)) gs
numbers_are r [] = refl
numbers_are r (g ∷ gs) = ap (λ (l : List ℕ). number_in (state_of r) g ∷ l) (numbers_are r gs)

register_at : (r : Running) (gs : List Register) (k : ℕ) →
    option_map (slice_index r.numbers) (slice_get (map (place_of r.parts) gs) k) ≡ option_map (number_in (state_of r)) (slice_get gs k)
register_at r [] k = refl
register_at r (g ∷ gs) zero = refl
register_at r (g ∷ gs) (suc k) = register_at r gs k

pub register_is : (r : Running) (l : Listing) (is : IsListing r l) (k : ℕ) →
    option_map (slice_index r.numbers) (slice_get l.places k) ≡ option_map (number_in (state_of r)) (slice_get (registers_of is.marks) k)
register_is r l is k = ap (λ (places : List ℕ). option_map (slice_index r.numbers) (slice_get places k)) is.places ∙ register_at r (registers_of is.marks) k

-- ---- each number fits its width

fit_at : (r : Running) (top : Module) → IsState r.modules top (state_of r) → (gs : List Register) → AllByRecursion (IsOfNet r.modules top) gs → (k : ℕ) → k < length gs →
    slice_index (map (number_in (state_of r)) gs) k < 2 ^ slice_index (map width_of gs) k
fit_at r top state [] net k lt = absurd (omega (arith, lt))
fit_at r top state (g ∷ gs) net zero lt = state.registers g.path net.0.kind g.place g.signal net.0.at net.0.register
fit_at r top state (g ∷ gs) net (suc k) lt = fit_at r top state gs net.1 k (omega (arith, lt))

pub values_fit : (r : Running) (l : Listing) → Stands r → IsListing r l → AreValues l.widths (map (slice_index r.numbers) l.places)
values_fit r l is listing =
    let gs = registers_of listing.marks in
    let same : is.top ≡ listing.top = same_Some is.top listing.top (sym is.is_top ∙ listing.is_top) in
    let state : IsState r.modules listing.top (state_of r) = subst (λ (t : Module). IsState r.modules t (state_of r)) same is.state in
    let numbers : map (slice_index r.numbers) l.places ≡ map (number_in (state_of r)) gs = ap (map (slice_index r.numbers)) listing.places ∙ numbers_are r gs in
    let long : length (map (number_in (state_of r)) gs) ≡ length (map width_of gs) = length-map gs (number_in (state_of r)) ∙ sym (length-map gs width_of) in
    let values : AreValues (map width_of gs) (map (number_in (state_of r)) gs) = record {
      each = long;
      fit = λ k lt. fit_at r listing.top state gs listing.net k (omega (arith, lt, length-map gs width_of));
    } in
    subst (λ (w : List ℕ). AreValues w (map (slice_index r.numbers) l.places)) (sym listing.widths) (subst (AreValues (map width_of gs)) (sym numbers) values)

-- ---- no register has more than 64 bits

narrow_at : (r : Running) (top : Module) → IsRight r.modules top → (gs : List Register) → AllByRecursion (IsOfNet r.modules top) gs → AllByRecursion (λ w. w ≤ 64) (map width_of gs)
narrow_at r top right [] net = tt
narrow_at r top right (g ∷ gs) net = (right.narrow g.path net.0.kind g.place g.signal net.0.at, narrow_at r top right gs net.1)

pub narrow_of : (r : Running) (l : Listing) → Stands r → IsListing r l → All (λ w. w ≤ 64) l.widths
narrow_of r l is listing =
    let same : is.top ≡ listing.top = same_Some is.top listing.top (sym is.is_top ∙ listing.is_top) in
    let right : IsRight r.modules listing.top = subst (IsRight r.modules) same is.right in
    subst (All (λ w. w ≤ 64)) (sym listing.widths)
    (All-from_recursion (λ w. w ≤ 64) (map width_of (registers_of listing.marks)) (narrow_at r listing.top right (registers_of listing.marks) listing.net))
