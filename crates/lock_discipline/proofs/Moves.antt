-- A step of a thread touches what the walk has met, and leaves work that the walk has met.
use Rattle.std.proofs.Common.{◌≡◌, ℕ, zero, suc, List, [], ◌∷◌, ◌++◌, map, refl, sym, subst, inl, inr}
use Rattle.std.specs.Prelude.{◌⊎◌, Bool, true, false, not, Option, Some, None, slice_get, ℤ}
use Rattle.std.specs.List.{AllByRecursion}
use Rattle.hls_ints.specs.Types.{IntegerType, wrapped}
use Rattle.hls_ints.specs.Operators.{is_zero}
use Rattle.c_program.specs.declared.tree.Storage.{Storage}
use Rattle.c_program.specs.declared.tree.Storage.TheVariants.{Automatic, Static}
use Rattle.lists.proofs.Places.{all_front, all_back}
use Rattle.c_program.specs.Tree.{Expression, ThreadCall, Statement, Function, Program}
use Rattle.c_program.specs.Resolved.{IsThreadCall, IsFunction, IsResolved, nowhere, in_switch}
use Rattle.thread_semantics.specs.Memory.{Location, Memory, Evaluation, Gives, Fails}
use Rattle.thread_semantics.specs.Value.{value, values}
use Rattle.thread_semantics.specs.Work.{Work, Act, Going, Onward, Turning, settled, decided, noted, switched}
use Rattle.thread_semantics.specs.State.{Frame, begun}
use Rattle.thread_semantics.specs.Move.{Move, Write, moving, going_on, Assignment, assignment, update, slot_place, keep_in, stored_in, entered, resumed, return_type, returned_value, returned}
use Rattle.thread_semantics.specs.Move.{operands_of, act_of, prepared, truth_in, statement_move, end_offset, work_move}
use Rattle.thread_semantics.specs.Races.{Touch, read_of, write_of}
use Rattle.global_naming.specs.Naming.{variable_globals, expression_globals, expressions_globals, thread_call_globals}
use Rattle.race_model.proofs.Lists.{all_at}
use Rattle.lock_discipline.specs.Sets.{Sets, meet, meet_with, past, lowered}
use Rattle.lock_discipline.specs.Walk.{Seen, TooDeep, Passed, Walker, access, reads, writes, index_globals, target_globals, assigned, calls_in, calls_of_code, calls_within, walk, walk_code, walk_within}
use Rattle.lock_discipline.proofs.Order.{IsBelow, below_refl, below_trans, meet_left, meet_right, AreSpared, lowered_below, lowered_spares, keeps_lowered}
use Rattle.lock_discipline.proofs.Keeps.{IsBelowIfAny, keeps, keeps_within}
use Rattle.lock_discipline.proofs.Good.{Weak, weak, weaker, weak_map, WeakIfAny, MayMake, Covers, Jumps, IsAsked, IsDone, Good, Ready}
use Rattle.lock_discipline.proofs.Opens.{settled_ready, decided_ready, switched_ready}
use Rattle.lock_discipline.proofs.ReadGlobals.{Among, AreAmong, Gets, Any, value_gets, values_gets, IsFor, assignment_gets, update_gets, operands_get}

module _ (P : Program) (IsMet : Seen → Type 0) (w : Walker) where
  abbrev pub inside : ℕ → ℕ → List ThreadCall
  inside depth = calls_within P.functions depth

  abbrev pub walks : ℕ → ℕ → Sets → Passed
  walks depth = walk_within w P.functions depth

  -- a call whose work is covered from these sets, where it returns with what its caller needs
  pub record IsCall (Returns : Sets → Type 0) (f : Frame) (s : Sets) : Type 0 where
    pub code : Function
    pub found : slice_get P.functions f.function ≡ Some code
    pub depth : ℕ
    pub good : Good P IsMet w (calls_within P.functions depth) (walk_within w P.functions depth) Returns code f.work Onward s

  -- those that wait for a call to return, the innermost first
  abbrev pub AreCallers : List Frame → Sets → Type 0
  AreCallers [] s = Unit {0}
  AreCallers (f ∷ fs) s = IsCall (AreCallers fs) f s

  -- the innermost call, whose work begins with a step
  pub record IsInnermost (Returns : Sets → Type 0) (f : Frame) (s : Sets) : Type 0 where
    pub code : Function
    pub found : slice_get P.functions f.function ≡ Some code
    pub depth : ℕ
    pub ready : Ready P IsMet w (calls_within P.functions depth) (walk_within w P.functions depth) Returns code f.work s

  abbrev pub IsPrint : Act → Type 0
  IsPrint (Act.Print format) = Unit {0}
  IsPrint act = ⊥

  -- or an act that is to be performed: of printf, or of a pthread call on these operands
  pub record IsPrinting (Returns : Sets → Type 0) (f : Frame) (s : Sets) : Type 0 where
    pub code : Function
    pub found : slice_get P.functions f.function ≡ Some code
    pub depth : ℕ
    pub offset : ℕ
    pub act : Act
    pub work : List Work
    pub first : f.work ≡ Work.Perform offset act ∷ work
    pub harmless : IsPrint act
    pub later : Weak (Good P IsMet w (calls_within P.functions depth) (walk_within w P.functions depth) Returns code work Onward) s

  pub record IsActing (Returns : Sets → Type 0) (f : Frame) (s : Sets) : Type 0 where
    pub code : Function
    pub found : slice_get P.functions f.function ≡ Some code
    pub depth : ℕ
    pub offset : ℕ
    pub call : ThreadCall
    pub is : IsThreadCall P code call
    pub memory : Memory
    pub reads : List Location
    pub work : List Work
    pub first : f.work ≡ Work.Perform offset (act_of call) ∷ work
    pub operands : operands_of P call memory ≡ Gives f.kept reads
    pub may : MayMake w call
    pub later : Weak (Good P IsMet w (calls_within P.functions depth) (walk_within w P.functions depth) Returns code work Onward) (past s call)

  abbrev pub AreCalls : List Frame → Sets → Type 0
  AreCalls [] s = ⊥
  AreCalls (f ∷ fs) s = IsInnermost (AreCallers fs) f s ⊎ IsPrinting (AreCallers fs) f s ⊎ IsActing (AreCallers fs) f s

  -- what a step touches was met with these sets
  abbrev pub IsTold : Sets → Touch → Type 0
  IsTold s t = (offset : ℕ) × IsMet (access w s offset t.written t.place.variable)

  abbrev pub AreTold : Sets → List Touch → Type 0
  AreTold s touches = AllByRecursion (IsTold s) touches

  abbrev pub IsFine : Sets → Move → Type 0
  IsFine s (Move.Moves frames rs write) = AreTold s (map read_of rs ++ write_of write) × Weak (AreCalls frames) s
  IsFine s (Move.Acts offset act operands frames) = ⊥
  IsFine s (Move.Ends offset rs) = AreTold s (map read_of rs)
  IsFine s (Move.Faults offset cause) = Unit {0}
  IsFine s Move.Impossible = Unit {0}

module _ (P : Program) (resolved : IsResolved P) (IsMet : Seen → Type 0) (bounded : IsMet TooDeep → ⊥) (w : Walker) where
  abbrev Calls : List Frame → Sets → Type 0
  Calls frames s = AreCalls P IsMet w frames s

  abbrev Callers : List Frame → Sets → Type 0
  Callers frames s = AreCallers P IsMet w frames s

  abbrev GoodAt : ℕ → (Sets → Type 0) → Function → List Work → Going → Sets → Type 0
  GoodAt depth Returns code k going s = Good P IsMet w (calls_within P.functions depth) (walk_within w P.functions depth) Returns code k going s

  abbrev ReadyAt : ℕ → (Sets → Type 0) → Function → List Work → Sets → Type 0
  ReadyAt depth Returns code k s = Ready P IsMet w (calls_within P.functions depth) (walk_within w P.functions depth) Returns code k s

  settles : (depth : ℕ) (Returns : Sets → Type 0) (code : Function) (k : List Work) (going : Going) (s : Sets) → GoodAt depth Returns code k going s →
      Weak (ReadyAt depth Returns code (settled going k)) s
  settles depth Returns code k going s g =
      settled_ready P IsMet w (calls_within P.functions depth) (walk_within w P.functions depth) (keeps_within w P.functions depth) Returns code k going s g

  -- what was met of these globals
  met_at : (f : ℕ → Seen) (xs : List ℕ) (x : ℕ) → AllByRecursion IsMet (map f xs) → Among x xs → IsMet (f x)
  met_at f [] x m a = absurd a
  met_at f (y ∷ xs) x m (inl e) = subst (λ z. IsMet (f z)) e m.0
  met_at f (y ∷ xs) x m (inr a) = met_at f xs x m.1 a

  -- of the globals that stand in either
  Either : (xs ys : List ℕ) (Q : ℕ → Type 0) → ((x : ℕ) → Among x xs → Q x) → ((x : ℕ) → Among x ys → Q x) → (x : ℕ) → Among x (xs ++ ys) → Q x
  Either [] ys Q h k x a = k x a
  Either (y ∷ xs) ys Q h k x (inl e) = h x (inl e)
  Either (y ∷ xs) ys Q h k x (inr a) = Either xs ys Q (λ z b. h z (inr b)) k x a

  told_reads : (s : Sets) (offset : ℕ) (xs : List ℕ) (rs : List Location) → ((x : ℕ) → Among x xs → IsMet (access w s offset false x)) → AreAmong xs rs →
      AreTold P IsMet w s (map read_of rs)
  told_reads s offset xs [] h a = tt
  told_reads s offset xs (r ∷ rs) h a = ((offset, h r.variable a.0), told_reads s offset xs rs h a.1)

  told_both : (s : Sets) (a b : List Touch) → AreTold P IsMet w s a → AreTold P IsMet w s b → AreTold P IsMet w s (a ++ b)
  told_both s [] b p q = q
  told_both s (t ∷ a) b p q = (p.0, told_both s a b p.1 q)

  -- reads, and no write
  told_only : (s : Sets) (offset : ℕ) (xs : List ℕ) (rs : List Location) → ((x : ℕ) → Among x xs → IsMet (access w s offset false x)) → AreAmong xs rs →
      AreTold P IsMet w s (map read_of rs ++ [])
  told_only s offset xs rs h a = told_both s (map read_of rs) [] (told_reads s offset xs rs h a) tt

  moving_fine : {A : Type 0} (s : Sets) (Q : A → Type 0) (xs : List ℕ) (offset : ℕ) (e : Evaluation A) (next : A → List Location → Move) → Gets Q xs e →
      ((v : A) (rs : List Location) → Q v → AreAmong xs rs → IsFine P IsMet w s (next v rs)) → IsFine P IsMet w s (moving offset e next)
  moving_fine s Q xs offset (Gives v rs) next g h = h v rs g.0 g.1
  moving_fine s Q xs offset (Fails cause) next g h = tt

  -- the innermost call goes on with other work
  rests : (depth : ℕ) (code : Function) (f : Frame) (fs : List Frame) (s : Sets) → slice_get P.functions f.function ≡ Some code →
      Weak (ReadyAt depth (Callers fs) code f.work) s → Weak (Calls (f ∷ fs)) s
  rests depth code f fs s found r = (r.0, r.1, inl (record { code = code; found = found; depth = depth; ready = r.2 }))

  pub goes_on : (depth : ℕ) (code : Function) (f : Frame) (fs : List Frame) (k : List Work) (s : Sets) → slice_get P.functions f.function ≡ Some code → f.work ≡ settled Onward k →
      Weak (GoodAt depth (Callers fs) code k Onward) s → Weak (Calls (f ∷ fs)) s
  goes_on depth code f fs k s found is z =
      rests depth code f fs s found
      (subst (λ q. Weak (ReadyAt depth (Callers fs) code q) s) (sym is)
      (weak_map (GoodAt depth (Callers fs) code k Onward) (ReadyAt depth (Callers fs) code (settled Onward k)) s (settles depth (Callers fs) code k Onward) z))

  -- a caller goes on
  resumes : (v : Option ℤ) (k : List Work) (f : Frame) (fs : List Frame) (s : Sets) → f.work ≡ k → IsCall P IsMet w (Callers fs) f s → Weak (Calls (resumed v k f ∷ fs)) s
  resumes v (Work.Take into ∷ k) f fs s is c =
      let good : GoodAt c.depth (Callers fs) c.code (Work.Take into ∷ k) Onward s = subst (λ q. GoodAt c.depth (Callers fs) c.code q Onward s) is c.good in
      goes_on c.depth c.code (record (going_on f k) { locals = keep_in into v f.locals }) fs k s c.found refl (weak (GoodAt c.depth (Callers fs) c.code k Onward) s good)
  resumes v k f fs s is c =
      let good : GoodAt c.depth (Callers fs) c.code k Onward s = subst (λ q. GoodAt c.depth (Callers fs) c.code q Onward s) is c.good in
      goes_on c.depth c.code (going_on f k) fs k s c.found refl (weak (GoodAt c.depth (Callers fs) c.code k Onward) s good)

  -- a return, after these reads
  returns_fine : (offset : ℕ) (v : Option ℤ) (rs : List Location) (f : Frame) (fs : List Frame) (s : Sets) → AreTold P IsMet w s (map read_of rs) → Weak (Callers fs) s →
      IsFine P IsMet w s (returned P offset v rs f fs)
  returns_fine offset v rs f [] s told z = told
  returns_fine offset v rs f (g ∷ gs) s told z =
      let given = returned_value (return_type (slice_get P.functions f.function)) v in (
        told_both s (map read_of rs) [] told tt,
        weaker (Calls (resumed given g.work g ∷ gs)) z.0 s z.1 (resumes given g.work g gs z.0 refl z.2),
      )

  -- a value is stored, after these reads
  stored_fine : (depth : ℕ) (code : Function) (storage : Storage) (a : Assignment) (rs : List Location) (f : Frame) (fs : List Frame) (k : List Work) (s : Sets) (ys : List ℕ) →
      slice_get P.functions f.function ≡ Some code → AreTold P IsMet w s (map read_of rs) → ((x : ℕ) → Among x ys → (offset : ℕ) × IsMet (access w s offset true x)) →
      variable_globals storage a.target.variable ≡ ys → Weak (GoodAt depth (Callers fs) code k Onward) s → IsFine P IsMet w s (stored_in storage a rs f fs k)
  stored_fine depth code Automatic a rs f fs k s ys found told h is z = (told_both s (map read_of rs) [] told tt, goes_on depth code _ fs k s found refl z)
  stored_fine depth code Static a rs f fs k s ys found told h is z =
      let write : Write = record { place = record { variable = a.target.variable; index = a.target.index }; value = wrapped a.target.ty a.value } in
      let written = h a.target.variable (subst (λ q. Among a.target.variable q) is (inl refl)) in
      (told_both s (map read_of rs) (write_of (Some write)) told (written, tt), goes_on depth code _ fs k s found refl z)

  weak_if : (Returns : Sets → Type 0) (l : Sets) (o : Option Sets) → Weak Returns l → IsBelowIfAny l o → WeakIfAny Returns o
  weak_if Returns l None z b = tt
  weak_if Returns l (Some r) z b = weaker Returns l r b z

  below_with : (l end : Sets) (o : Option Sets) → IsBelow l (meet_with end o) → IsBelow l end × IsBelowIfAny l o
  below_with l end None b = (b, tt)
  below_with l end (Some r) b = (below_trans l (meet end r) end b (meet_left end r), below_trans l (meet end r) r b (meet_right end r))

  abbrev body_of : ℕ → Function → Sets → Passed
  body_of d code s = walk w (calls_within P.functions d) (walk_within w P.functions d) None code.body s

  -- the work of a function that is called
  pub begins : (Returns : Sets → Type 0) (d g : ℕ) (s l : Sets) (code : Function) (arguments : List ℤ) → slice_get P.functions g ≡ Some code →
      AllByRecursion IsMet (body_of d code s).seen → AllByRecursion (MayMake w) (calls_in (calls_within P.functions d) code.body) →
      IsBelow l (body_of d code s).after → IsBelowIfAny l (body_of d code s).returns → Weak Returns l →
      Weak (ReadyAt d Returns code (begun code g arguments).work) s
  begins Returns d g s l code arguments at met may after returns z =
      let is : IsFunction P code = all_at (IsFunction P) P.functions g code resolved.functions at in
      settles d Returns code (Work.Do code.body ∷ []) Onward s
      (inl (record {
        place = nowhere;
        labels = None;
        is = is.body;
        covers = record { met = met; returns = weak_if Returns l (body_of d code s).returns z returns; may = may };
        after = weaker Returns l (body_of d code s).after after z;
        at_labels = tt;
        leaving = tt;
        turning = tt;
      }))

  -- the caller of a call, from sets from which its work is good
  waiting : (depth : ℕ) (code : Function) (f : Frame) (fs : List Frame) (k : List Work) (s : Sets) → slice_get P.functions f.function ≡ Some code →
      Weak (GoodAt depth (Callers fs) code k Onward) s → Weak (Callers (record f { work = k; kept = [] } ∷ fs)) s
  waiting depth code f fs k s found z =
      weak_map (GoodAt depth (Callers fs) code k Onward) (Callers (record f { work = k; kept = [] } ∷ fs)) s
      (λ t g. weak (Callers (record f { work = k; kept = [] } ∷ fs)) t (record { code = code; found = found; depth = depth; good = g })) z

  -- a call whose value is used: its statement has the sets l throughout
  value_called : (depth g : ℕ) (code : Function) (arguments : List ℤ) (rs : List Location) (f : Frame) (fs : List Frame) (k : List Work) (l : Sets) →
      slice_get P.functions f.function ≡ Some code → AreTold P IsMet w l (map read_of rs) → AllByRecursion IsMet (walk_within w P.functions depth g l).seen →
      AllByRecursion (MayMake w) (calls_within P.functions depth g) → AreSpared l (calls_within P.functions depth g) →
      Weak (GoodAt depth (Callers fs) code k Onward) l → IsFine P IsMet w l (entered (slice_get P.functions g) g arguments rs f fs k)
  value_called zero g code arguments rs f fs k l found told met may spared z = absurd (bounded met.0)
  value_called (suc d) g code arguments rs f fs k l found told met may spared z = go (slice_get P.functions g) refl met may spared
    where
      caller : Frame
      caller = record f { work = k; kept = [] }

      go : (o : Option Function) → slice_get P.functions g ≡ o → AllByRecursion IsMet (walk_code w (calls_within P.functions d) (walk_within w P.functions d) o l).seen →
          AllByRecursion (MayMake w) (calls_of_code (calls_within P.functions d) o) → AreSpared l (calls_of_code (calls_within P.functions d) o) →
          IsFine P IsMet w l (entered o g arguments rs f fs k)
      go None at m q p = tt
      go (Some callee) at m q p =
          let kept = keeps w (calls_within P.functions d) (walk_within w P.functions d) l (λ h t. keeps_within w P.functions d h l t) None callee.body l tt (below_refl l) p in
          let begun_ready = begins (Callers (record f { work = k; kept = [] } ∷ fs)) d g l l callee arguments at m q kept.0 kept.1 (waiting (suc d) code f fs k l found z) in (
            told_both l (map read_of rs) [] told tt,
            rests d callee (begun callee g arguments) (record f { work = k; kept = [] } ∷ fs) l at begun_ready,
          )

  -- a call that is a statement
  plain_called : (depth g : ℕ) (code : Function) (arguments : List ℤ) (rs : List Location) (f : Frame) (fs : List Frame) (k : List Work) (s : Sets) →
      slice_get P.functions f.function ≡ Some code → AreTold P IsMet w s (map read_of rs) → AllByRecursion IsMet (walk_within w P.functions depth g s).seen →
      AllByRecursion (MayMake w) (calls_within P.functions depth g) →
      Weak (GoodAt depth (Callers fs) code k Onward) (walk_within w P.functions depth g s).after → IsFine P IsMet w s (entered (slice_get P.functions g) g arguments rs f fs (Work.Take None ∷ k))
  plain_called zero g code arguments rs f fs k s found told met may z = absurd (bounded met.0)
  plain_called (suc d) g code arguments rs f fs k s found told met may z = go (slice_get P.functions g) refl met may z
    where
      go : (o : Option Function) → slice_get P.functions g ≡ o → AllByRecursion IsMet (walk_code w (calls_within P.functions d) (walk_within w P.functions d) o s).seen →
          AllByRecursion (MayMake w) (calls_of_code (calls_within P.functions d) o) →
          Weak (GoodAt (suc d) (Callers fs) code k Onward) (walk_code w (calls_within P.functions d) (walk_within w P.functions d) o s).after →
          IsFine P IsMet w s (entered o g arguments rs f fs (Work.Take None ∷ k))
      go None at m q y = tt
      go (Some callee) at m q y =
          let l : Sets = meet_with (body_of d callee s).after (body_of d callee s).returns in
          let kept = below_with l (body_of d callee s).after (body_of d callee s).returns (below_refl l) in
          let begun_ready =
          begins (Callers (record f { work = Work.Take None ∷ k; kept = [] } ∷ fs)) d g s l callee arguments at m q kept.0 kept.1
          (waiting (suc d) code f fs (Work.Take None ∷ k) l found y) in (
            told_both s (map read_of rs) [] told tt,
            rests d callee (begun callee g arguments) (record f { work = Work.Take None ∷ k; kept = [] } ∷ fs) s at begun_ready,
          )

  abbrev Fine : Move → Sets → Type 0
  Fine mv s = IsFine P IsMet w s mv

  -- the reads and the write of an assignment
  reads_told : (s : Sets) (offset : ℕ) (xs : List ℕ) (rs : List Location) → AllByRecursion IsMet (reads w s offset xs) → AreAmong xs rs → AreTold P IsMet w s (map read_of rs)
  reads_told s offset xs rs m a = told_reads s offset xs rs (λ x b. met_at (access w s offset false) xs x m b) a

  both_told : (s : Sets) (offset : ℕ) (xs ys : List ℕ) (rs : List Location) → AllByRecursion IsMet (reads w s offset xs) → AllByRecursion IsMet (reads w s offset ys) →
      AreAmong (xs ++ ys) rs → AreTold P IsMet w s (map read_of rs)
  both_told s offset xs ys rs m n a =
      told_reads s offset (xs ++ ys) rs
      (Either xs ys (λ x. IsMet (access w s offset false x)) (λ x b. met_at (access w s offset false) xs x m b) (λ x b. met_at (access w s offset false) ys x n b)) a

  written_told : (s : Sets) (offset : ℕ) (ys : List ℕ) → AllByRecursion IsMet (writes w s offset ys) → (x : ℕ) → Among x ys → (o : ℕ) × IsMet (access w s o true x)
  written_told s offset ys m x a = (offset, met_at (access w s offset true) ys x m a)

  decides : (depth : ℕ) (code : Function) (f : Frame) (fs : List Frame) (k : List Work) (truth : Bool) (locals : List (List (Option ℤ))) (s : Sets) →
      slice_get P.functions f.function ≡ Some code → Weak (GoodAt depth (Callers fs) code k Onward) s →
      Weak (Calls (record f { locals = locals; work = decided truth k; kept = [] } ∷ fs)) s
  decides depth code f fs k truth locals s found z =
      rests depth code (record f { locals = locals; work = decided truth k; kept = [] }) fs s found
      (weak_map (GoodAt depth (Callers fs) code k Onward) (ReadyAt depth (Callers fs) code (decided truth k)) s
      (decided_ready P IsMet w (calls_within P.functions depth) (walk_within w P.functions depth) (keeps_within w P.functions depth) (Callers fs) code truth k) z)

  abbrev AskedAt : ℕ → (Sets → Type 0) → Function → Bool → Statement → Sets → Type 0
  AskedAt depth Returns code truth st s = IsAsked P IsMet w (calls_within P.functions depth) (walk_within w P.functions depth) Returns code truth st s

  -- the step of what is evaluated before another step
  before_fine : (depth : ℕ) (code : Function) (m : Memory) (f : Frame) (fs : List Frame) (k : List Work) (s : Sets) (st : Statement) →
      slice_get P.functions f.function ≡ Some code → AskedAt depth (Callers fs) code false st s → Weak (GoodAt depth (Callers fs) code k Onward) s →
      Fine (statement_move P m f fs k st) s
  before_fine depth code m f fs k s (Statement.Call offset (Some slot) h arguments) found q z =
      let front = all_front IsMet (reads w s offset (expressions_globals arguments)) (walk_within w P.functions depth h s).seen q.met in
      let callee = all_back IsMet (reads w s offset (expressions_globals arguments)) (walk_within w P.functions depth h s).seen q.met in
      moving_fine s Any (expressions_globals arguments) offset (values arguments m) (λ vs rs. entered (slice_get P.functions h) h vs rs f fs (Work.Take (Some slot) ∷ k))
      (values_gets arguments m)
      (λ vs rs _ among. value_called depth h code vs rs f fs (Work.Take (Some slot) ∷ k) s found
      (reads_told s offset (expressions_globals arguments) rs front among) callee q.may q.spares z)
  before_fine depth code m f fs k s (Statement.Keep offset slot ty operand) found q z =
      moving_fine s (IsFor (slot_place slot)) (expression_globals operand ++ []) offset (assignment (slot_place slot) (Expression.Cast ty operand) m)
      (λ a rs. stored_in a.target.storage a rs f fs k)
      (assignment_gets (slot_place slot) (Expression.Cast ty operand) m)
      (λ a rs is among. stored_fine depth code a.target.storage a rs f fs k s [] found
      (both_told s offset (expression_globals operand) [] rs q.met tt among) (written_told s offset [] tt) is z)
  before_fine depth code m f fs k s Statement.Done found q z = tt
  before_fine depth code m f fs k s (Statement.Sequence first next) found q z = tt
  before_fine depth code m f fs k s (Statement.Truth slot condition) found q z = tt
  before_fine depth code m f fs k s (Statement.If condition x y) found q z = tt
  before_fine depth code m f fs k s st found q z = absurd q.is

  -- an operand of a condition
  operand_fine : (depth : ℕ) (code : Function) (m : Memory) (f : Frame) (fs : List Frame) (k : List Work) (s : Sets) (st : Statement) →
      slice_get P.functions f.function ≡ Some code → AskedAt depth (Callers fs) code true st s → Weak (GoodAt depth (Callers fs) code k Onward) s →
      Fine (statement_move P m f fs k st) s
  operand_fine depth code m f fs k s (Statement.Test offset operand) found q z =
      moving_fine s Any (expression_globals operand) offset (value operand m)
      (λ v rs. Move.Moves (record f { locals = truth_in (noted (not (is_zero v)) k) f.locals; work = decided (not (is_zero v)) k; kept = [] } ∷ fs) rs None)
      (value_gets operand m)
      (λ v rs _ among. (
        told_only s offset (expression_globals operand) rs (λ x b. met_at (access w s offset false) (expression_globals operand) x q.met b) among,
        decides depth code f fs k (not (is_zero v)) (truth_in (noted (not (is_zero v)) k) f.locals) s found z,
      ))
  operand_fine depth code m f fs k s (Statement.Sequence first next) found q z = tt
  operand_fine depth code m f fs k s (Statement.Both first second) found q z = tt
  operand_fine depth code m f fs k s (Statement.Either first second) found q z = tt
  operand_fine depth code m f fs k s (Statement.Opposite turned) found q z = tt
  operand_fine depth code m f fs k s st found q z = absurd q.is

  part_fine : (depth : ℕ) (code : Function) (m : Memory) (f : Frame) (fs : List Frame) (k : List Work) (s : Sets) (st : Statement) (truth : Bool) →
      slice_get P.functions f.function ≡ Some code → AskedAt depth (Callers fs) code truth st s → Weak (GoodAt depth (Callers fs) code k Onward) s →
      Fine (statement_move P m f fs k st) s
  part_fine depth code m f fs k s st true found q z = operand_fine depth code m f fs k s st found q z
  part_fine depth code m f fs k s st false found q z = before_fine depth code m f fs k s st found q z

  abbrev DoneAt : ℕ → Function → List Frame → List Work → Statement → Sets → Type 0
  DoneAt depth code fs k st s =
      IsDone P IsMet w (calls_within P.functions depth) (walk_within w P.functions depth) (Callers fs) code
      (Good P IsMet w (calls_within P.functions depth) (walk_within w P.functions depth) (Callers fs) code k) st s

  -- a switch, with the sets that are so throughout it
  switch_fine : (depth : ℕ) (code : Function) (m : Memory) (f : Frame) (fs : List Frame) (k : List Work) (s : Sets) (offset : ℕ) (ty : IntegerType) (operand : Expression)
      (body : Statement) → slice_get P.functions f.function ≡ Some code → DoneAt depth code fs k (Statement.Switch offset ty operand body) s →
      Weak (Fine (statement_move P m f fs k (Statement.Switch offset ty operand body))) s
  switch_fine depth code m f fs k s offset ty operand body found g =
      let calls = calls_in (calls_within P.functions depth) body in
      let l : Sets = lowered s calls in
      let is = g.is in
      let passed = walk w (calls_within P.functions depth) (walk_within w P.functions depth) (Some l) body l in
      let front = all_front IsMet (reads w l offset (expression_globals operand)) passed.seen g.covers.met in
      let covers : Covers P IsMet w (calls_within P.functions depth) (walk_within w P.functions depth) (Callers fs) code (Some l) body l =
      record { met = all_back IsMet (reads w l offset (expression_globals operand)) passed.seen g.covers.met; returns = g.covers.returns; may = g.covers.may } in
      let spares = lowered_spares s calls in (
        l,
        lowered_below s calls,
        moving_fine l Any (expression_globals operand) offset (value operand m)
            (λ v rs. Move.Moves (record f { work = switched (wrapped ty v) body k; kept = [] } ∷ fs) rs None) (value_gets operand m)
            (λ v rs _ among. (
              told_only l offset (expression_globals operand) rs (λ x b. met_at (access w l offset false) (expression_globals operand) x front b) among,
              rests depth code (record f { work = switched (wrapped ty v) body k; kept = [] }) fs l found
                  (switched_ready P IsMet w (calls_within P.functions depth) (walk_within w P.functions depth) (keeps_within w P.functions depth) (Callers fs) code (wrapped ty v) body
                  (in_switch ty g.place) l k is.2 covers spares g.after (l, (below_refl l, spares, below_refl l), g.after)
                  (turns depth code fs k body s (Statement.Switch offset ty operand body) g.place.turns g.labels refl g.turning)),
            )),
      )
    where
      turns : (depth : ℕ) (code : Function) (fs : List Frame) (k : List Work) (body : Statement) (s : Sets) (st : Statement) (b : Bool) (labels : Option Sets) →
          calls_in (calls_within P.functions depth) st ≡ calls_in (calls_within P.functions depth) body →
          Jumps P IsMet w (calls_within P.functions depth) (walk_within w P.functions depth) (Callers fs) code b (GoodAt depth (Callers fs) code k Turning) labels st s →
          let l = lowered s (calls_in (calls_within P.functions depth) body) in
          Jumps P IsMet w (calls_within P.functions depth) (walk_within w P.functions depth) (Callers fs) code b (GoodAt depth (Callers fs) code k Turning) (Some l) body l
      turns depth code fs k body s st false labels same j = tt
      turns depth code fs k body s st true labels same j =
          let calls = calls_in (calls_within P.functions depth) body in
          let spared : AreSpared j.0 calls = subst (AreSpared j.0) same j.1.1 in
          let below = keeps_lowered j.0 s calls j.1.0 spared in
          (j.0, (below, spared, below), j.2)

  -- a statement that takes a step
  statement_fine : (depth : ℕ) (code : Function) (m : Memory) (f : Frame) (fs : List Frame) (k : List Work) (s : Sets) (st : Statement) →
      slice_get P.functions f.function ≡ Some code → DoneAt depth code fs k st s → Weak (Fine (statement_move P m f fs k st)) s
  statement_fine depth code m f fs k s (Statement.Declare offset x operators) found g =
      weak (Fine (statement_move P m f fs k (Statement.Declare offset x operators))) s (tt, goes_on depth code _ fs k s found refl g.after)
  statement_fine depth code m f fs k s (Statement.Assign offset place right) found g =
      let front = all_front IsMet (reads w s offset (expression_globals right)) (assigned w s offset place) g.covers.met in
      let back = all_back IsMet (reads w s offset (expression_globals right)) (assigned w s offset place) g.covers.met in
      let index = all_front IsMet (reads w s offset (index_globals place)) (writes w s offset (target_globals place)) back in
      let target = all_back IsMet (reads w s offset (index_globals place)) (writes w s offset (target_globals place)) back in
      weak (Fine (statement_move P m f fs k (Statement.Assign offset place right))) s
      (moving_fine s (IsFor place) (expression_globals right ++ index_globals place) offset (assignment place right m) (λ a rs. stored_in a.target.storage a rs f fs k)
      (assignment_gets place right m)
      (λ a rs is among. stored_fine depth code a.target.storage a rs f fs k s (target_globals place) found
      (both_told s offset (expression_globals right) (index_globals place) rs front index among) (written_told s offset (target_globals place) target) is g.after))
  statement_fine depth code m f fs k s (Statement.Update offset place operator ty right) found g =
      let whole = reads w s offset (target_globals place) ++ assigned w s offset place in
      let front = all_front IsMet (reads w s offset (expression_globals right)) whole g.covers.met in
      let back = all_back IsMet (reads w s offset (expression_globals right)) whole g.covers.met in
      let old = all_front IsMet (reads w s offset (target_globals place)) (assigned w s offset place) back in
      let more = all_back IsMet (reads w s offset (target_globals place)) (assigned w s offset place) back in
      let index = all_front IsMet (reads w s offset (index_globals place)) (writes w s offset (target_globals place)) more in
      let target = all_back IsMet (reads w s offset (index_globals place)) (writes w s offset (target_globals place)) more in
      let tell : (x : ℕ) → Among x (target_globals place ++ index_globals place) → IsMet (access w s offset false x) =
      Either (target_globals place) (index_globals place) (λ x. IsMet (access w s offset false x))
      (λ x b. met_at (access w s offset false) (target_globals place) x old b) (λ x b. met_at (access w s offset false) (index_globals place) x index b) in
      weak (Fine (statement_move P m f fs k (Statement.Update offset place operator ty right))) s
      (moving_fine s (IsFor place) (expression_globals right ++ (target_globals place ++ index_globals place)) offset (update place operator ty right m)
      (λ a rs. stored_in a.target.storage a rs f fs k)
      (update_gets place operator ty right m)
      (λ a rs is among. stored_fine depth code a.target.storage a rs f fs k s (target_globals place) found
      (told_reads s offset (expression_globals right ++ (target_globals place ++ index_globals place)) rs
      (Either (expression_globals right) (target_globals place ++ index_globals place) (λ x. IsMet (access w s offset false x))
      (λ x b. met_at (access w s offset false) (expression_globals right) x front b) tell) among)
      (written_told s offset (target_globals place) target) is g.after))
  statement_fine depth code m f fs k s (Statement.Return offset None) found g =
      weak (Fine (statement_move P m f fs k (Statement.Return offset None))) s (returns_fine offset None [] f fs s tt g.covers.returns)
  statement_fine depth code m f fs k s (Statement.Return offset (Some e)) found g =
      weak (Fine (statement_move P m f fs k (Statement.Return offset (Some e)))) s
      (moving_fine s Any (expression_globals e) offset (value e m) (λ v rs. returned P offset (Some v) rs f fs) (value_gets e m)
      (λ v rs _ among. returns_fine offset (Some v) rs f fs s (reads_told s offset (expression_globals e) rs g.covers.met among) g.covers.returns))
  statement_fine depth code m f fs k s (Statement.Call offset None h arguments) found g =
      let front = all_front IsMet (reads w s offset (expressions_globals arguments)) (walk_within w P.functions depth h s).seen g.covers.met in
      let callee = all_back IsMet (reads w s offset (expressions_globals arguments)) (walk_within w P.functions depth h s).seen g.covers.met in
      weak (Fine (statement_move P m f fs k (Statement.Call offset None h arguments))) s
      (moving_fine s Any (expressions_globals arguments) offset (values arguments m) (λ vs rs. entered (slice_get P.functions h) h vs rs f fs (Work.Take None ∷ k))
      (values_gets arguments m)
      (λ vs rs _ among. plain_called depth h code vs rs f fs k s found (reads_told s offset (expressions_globals arguments) rs front among) callee g.covers.may g.after))
  statement_fine depth code m f fs k s (Statement.Call offset (Some slot) h arguments) found g =
      let calls = calls_within P.functions depth h in (
        lowered s calls,
        lowered_below s calls,
        before_fine depth code m f fs k (lowered s calls) (Statement.Call offset (Some slot) h arguments) found
            (record { is = g.is; met = g.covers.met; may = g.covers.may; spares = lowered_spares s calls }) g.after,
      )
  statement_fine depth code m f fs k s (Statement.Keep offset slot ty operand) found g =
      weak (Fine (statement_move P m f fs k (Statement.Keep offset slot ty operand))) s
      (before_fine depth code m f fs k s (Statement.Keep offset slot ty operand) found
      (record { is = g.is; met = g.covers.met; may = tt; spares = tt }) g.after)
  statement_fine depth code m f fs k s (Statement.Test offset operand) found g = absurd g.is
  statement_fine depth code m f fs k s (Statement.Switch offset ty operand body) found g = switch_fine depth code m f fs k s offset ty operand body found g
  statement_fine depth code m f fs k s (Statement.Print offset format arguments) found g =
      weak (Fine (statement_move P m f fs k (Statement.Print offset format arguments))) s
      (moving_fine s Any (expressions_globals arguments) offset (values arguments m)
      (λ vs rs. Move.Moves (record f { work = Work.Perform offset (Act.Print format) ∷ k; kept = vs } ∷ fs) rs None) (values_gets arguments m)
      (λ vs rs _ among. (
        told_both s (map read_of rs) [] (reads_told s offset (expressions_globals arguments) rs g.covers.met among) tt,
        weak (Calls (record f { work = Work.Perform offset (Act.Print format) ∷ k; kept = vs } ∷ fs)) s
            (inr (inl (record {
              code = code;
              found = found;
              depth = depth;
              offset = offset;
              act = Act.Print format;
              work = k;
              first = refl;
              harmless = tt;
              later = g.after;
            }))),
      )))
  statement_fine depth code m f fs k s (Statement.Thread offset call) found g =
      weak (Fine (statement_move P m f fs k (Statement.Thread offset call))) s (acting_fine (operands_of P call m) refl)
    where
      acting_fine : (e : Evaluation (List ℤ)) → operands_of P call m ≡ e → IsFine P IsMet w s (prepared offset (act_of call) e f fs k)
      acting_fine (Fails cause) q = tt
      acting_fine (Gives vs rs) q =
          let gets : Gets {A = List ℤ} Any (thread_call_globals call) (Gives vs rs) = subst (λ e. Gets {A = List ℤ} Any (thread_call_globals call) e) q (operands_get P call m) in (
            told_both s (map read_of rs) [] (reads_told s offset (thread_call_globals call) rs g.covers.met gets.1) tt,
            weak (Calls (record f { work = Work.Perform offset (act_of call) ∷ k; kept = vs } ∷ fs)) s
                (inr (inr (record {
                  code = code;
                  found = found;
                  depth = depth;
                  offset = offset;
                  call = call;
                  is = g.is;
                  memory = m;
                  reads = rs;
                  work = k;
                  first = refl;
                  operands = q;
                  may = g.covers.may.0;
                  later = g.after;
                }))),
          )
  statement_fine depth code m f fs k s st found g = weak (Fine (statement_move P m f fs k st)) s tt

  -- the step of a call, by its first work
  pub work_fine : (depth : ℕ) (code : Function) (m : Memory) (f : Frame) (fs : List Frame) (work : List Work) (s : Sets) → slice_get P.functions f.function ≡ Some code →
      GoodAt depth (Callers fs) code work Onward s → Weak (Fine (work_move P m f fs work)) s
  work_fine depth code m f fs [] s found g =
      weak (Fine (work_move P m f fs [])) s (returns_fine (end_offset (slice_get P.functions f.function)) None [] f fs s tt (weak (Callers fs) s g))
  work_fine depth code m f fs (Work.Do st ∷ k) s found (inl g) = statement_fine depth code m f fs k s st found g
  work_fine depth code m f fs (Work.Do st ∷ k) s found (inr g) =
      weak (Fine (work_move P m f fs (Work.Do st ∷ k))) s (part_fine depth code m f fs k s st g.0 found g.1 g.2)
  work_fine depth code m f fs (Work.Perform offset act ∷ k) s found g = absurd g
  work_fine depth code m f fs (item ∷ k) s found g = weak (Fine (work_move P m f fs (item ∷ k))) s tt

  -- a thread begins with a function whose walk was met
  pub founds : (depth g : ℕ) (s : Sets) (code : Function) (arguments : List ℤ) → slice_get P.functions g ≡ Some code → AllByRecursion IsMet (walk_within w P.functions depth g s).seen →
      AllByRecursion (MayMake w) (calls_within P.functions depth g) → Weak (Calls (begun code g arguments ∷ [])) s
  founds zero g s code arguments at met may = absurd (bounded met.0)
  founds (suc d) g s code arguments at met may =
      let seen : AllByRecursion IsMet (body_of d code s).seen =
      subst (λ (o : Option Function). AllByRecursion IsMet (walk_code w (calls_within P.functions d) (walk_within w P.functions d) o s).seen) at met in
      let made : AllByRecursion (MayMake w) (calls_in (calls_within P.functions d) code.body) =
      subst (λ (o : Option Function). AllByRecursion (MayMake w) (calls_of_code (calls_within P.functions d) o)) at may in
      let l : Sets = meet_with (body_of d code s).after (body_of d code s).returns in
      let kept = below_with l (body_of d code s).after (body_of d code s).returns (below_refl l) in
      rests d code (begun code g arguments) [] s at
      (begins (Callers []) d g s l code arguments at seen made kept.0 kept.1 (weak (Callers []) l tt))
