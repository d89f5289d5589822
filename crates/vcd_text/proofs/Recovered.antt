-- A dump tells each register's value after each number of cycles.
use Rattle.std.proofs.Common.{◌≡◌, ℕ, zero, suc, ◌+◌, ◌^◌, ◌<◌, ◌≤◌, ◌++◌, ◌∷◌, [], List, Bool, true}
use Rattle.std.proofs.Common.{false, refl, sym, ap, ◌∙◌, subst, append_assoc, length, arith, Option, Some, None, nat_eq, append-nil}
use Rattle.std.proofs.Math.Nat.{pow-le-pow_right}
use Rattle.std.specs.Prelude.{if◌then◌else◌, ◌==◌, decimal, codes, slice_index}
use Rattle.std.specs.List.{All}
use Rattle.std.proofs.lemmas.List.Elements.{All-cons, All-head, All-tail}
use Rattle.std.proofs.lemmas.Bool.{ne_eqb, eq-eqb}
use Rattle.vcd_text.specs.Dump.{id_of, change, change_at, changed_at, joined, time, first_frame, frame, AreValues}
use Rattle.vcd_text.specs.Recover.{told, later, time_line, unlines, frames, IsHeadLine, Recovers}
use Rattle.vcd_text.proofs.Bytes.{is_line, plain_time, same_time, other_time, Says, change_line, told_of, change_says}
use Rattle.vcd_text.proofs.Lines.{read, line_read, goes_past}

-- ---- texts of numbers below one, each of which turns what is read last into something

abbrev Turns : Type 0
Turns = ℕ → Option ℕ → Option ℕ

abbrev turned : Turns → ℕ → Option ℕ → Option ℕ
turned step zero last = last
turned step (suc count) last = step count (turned step count last)

joined_read :
    (stop id : List ℕ) (text : ℕ → List ℕ) (step : Turns) (count : ℕ) →
    ((k : ℕ) → k < count → (last : Option ℕ) (rest : List ℕ) → read stop id last (text k ++ rest) ≡ read stop id (step k last) rest) →
    (last : Option ℕ) (rest : List ℕ) → read stop id last (joined text count ++ rest) ≡ read stop id (turned step count last) rest
joined_read stop id text step zero each last rest = refl
joined_read stop id text step (suc count) each last rest =
    ap (read stop id last) (append_assoc (joined text count) (text count) rest)
    ∙ joined_read stop id text step count (λ k lt. each k (omega (arith, lt))) last (text count ++ rest)
    ∙ each count (omega arith) (turned step count last) rest

-- a line that says something
said : (stop id line rest : List ℕ) (last o : Option ℕ) → Says stop id line o → read stop id last (line ++ 10 ∷ rest) ≡ read stop id (later last o) rest
said stop id line rest last o says =
    goes_past stop id line rest last says.one says.goes_on ∙ ap (λ (t : Option ℕ). read stop id (later last t) rest) says.tells

less_of : (j k : ℕ) → nat_eq j k ≡ false → k < suc j → k < j
less_of j k e lt = let ne : j ≡ k → ⊥ = λ same. grind (arith, e, same) in omega (arith, lt, ne)

-- ---- one frame

module _ (stop : List ℕ) (widths : List ℕ) (r : ℕ) (narrow : All (λ w. w ≤ 64) widths) (few : length widths < 2 ^ 64) (low : r < length widths) where
  id : List ℕ
  id = id_of r

  -- the line of register k with a value
  line_at : (k v : ℕ) → k < length widths → v < 2 ^ slice_index widths k → Says (35 ∷ stop) (id_of r) (change_line (slice_index widths k) v k) (told_of v k r)
  line_at k v lt fits =
      let wide : slice_index widths k ≤ 64 = narrow k 0 lt in
      let most : 2 ^ slice_index widths k ≤ 2 ^ 64 = pow-le-pow_right {n = 2} (omega arith) {i = slice_index widths k} {j = 64} wide in
      let small : v < 2 ^ 64 = omega (arith, fits, most) in
      change_says stop v k r (omega (arith, lt, few)) (omega (arith, low, few)) (slice_index widths k) fits small

  change_read : (k v : ℕ) (last : Option ℕ) (rest : List ℕ) → k < length widths → v < 2 ^ slice_index widths k →
      read (35 ∷ stop) (id_of r) last (change (slice_index widths k) v k ++ rest) ≡ read (35 ∷ stop) (id_of r) (later last (told_of v k r)) rest
  change_read k v last rest lt fits =
      ap (read (35 ∷ stop) (id_of r) last) (append_assoc (change_line (slice_index widths k) v k) (10 ∷ []) rest)
      ∙ said (35 ∷ stop) (id_of r) (change_line (slice_index widths k) v k) rest last (told_of v k r) (line_at k v lt fits)

  -- ---- the values of all registers

  module _ (now : List ℕ) (are : AreValues widths now) where
    all_step : Turns
    all_step k last = later last (told_of (slice_index now k) k r)

    all_by : (count : ℕ) (last : Option ℕ) (b : Bool) → nat_eq count r ≡ b → r < suc count → (r < count → last ≡ Some (slice_index now r)) →
        later last (if b then Some (slice_index now count) else None) ≡ Some (slice_index now r)
    all_by count last true e lt next = let same : count ≡ r = grind (arith, e) in ap (λ (k : ℕ). Some (slice_index now k)) same
    all_by count last false e lt next = next (less_of count r e lt)

    all_tell : (count : ℕ) (last : Option ℕ) → r < count → turned all_step count last ≡ Some (slice_index now r)
    unfolding all_step
    all_tell zero last lt = absurd (omega (arith, lt))
    all_tell (suc count) last lt = all_by count (turned all_step count last) (nat_eq count r) refl lt (λ less. all_tell count last less)

    all_read : (last : Option ℕ) (rest : List ℕ) → read (35 ∷ stop) (id_of r) last (joined (change_at widths now) (length widths) ++ rest) ≡ read (35 ∷ stop) (id_of r) (Some (slice_index now r)) rest
    unfolding all_step
    all_read last rest =
        joined_read (35 ∷ stop) (id_of r) (change_at widths now) all_step (length widths)
        (λ k lt l t. change_read k (slice_index now k) l t lt (are.fit k lt)) last rest
        ∙ ap (λ (o : Option ℕ). read (35 ∷ stop) (id_of r) o rest) (all_tell (length widths) last low)

    -- ---- those that are other ones than before

    module _ (before : List ℕ) where
      abbrev step_by : Bool → ℕ → Option ℕ → Option ℕ
      step_by b k last = if b then last else later last (told_of (slice_index now k) k r)

      some_step : Turns
      some_step k last = step_by (slice_index before k == slice_index now k) k last

      -- a register of another number changes nothing
      other_step : (b : Bool) (k : ℕ) (last : Option ℕ) → nat_eq k r ≡ false → step_by b k last ≡ last
      other_step true k last ne = refl
      other_step false k last ne = ap (λ (c : Bool). later last (if c then Some (slice_index now k) else None)) ne

      own_step : (b : Bool) (last : Option ℕ) → (slice_index before r == slice_index now r) ≡ b → last ≡ Some (slice_index before r) → step_by b r last ≡ Some (slice_index now r)
      own_step true last e is = let same : slice_index before r ≡ slice_index now r = grind (arith, e) in is ∙ ap (λ (v : ℕ). Some v) same
      own_step false last e is = ap (λ (c : Bool). later last (if c then Some (slice_index now r) else None)) (eq-eqb r r refl)

      none_tell : (count : ℕ) (last : Option ℕ) → count ≤ r → turned some_step count last ≡ last
      unfolding some_step
      none_tell zero last le = refl
      none_tell (suc count) last le =
          other_step (slice_index before count == slice_index now count) count (turned some_step count last) (ne_eqb count r (λ e. omega (arith, le, e)))
          ∙ none_tell count last (omega (arith, le))

      some_by : (count : ℕ) (last : Option ℕ) (b : Bool) → nat_eq count r ≡ b → r < suc count → last ≡ Some (slice_index before r) →
          (r < count → turned some_step count last ≡ Some (slice_index now r)) →
          step_by (slice_index before count == slice_index now count) count (turned some_step count last) ≡ Some (slice_index now r)
      some_by count last true e lt is next =
          let same : count ≡ r = grind (arith, e) in
          subst (λ (k : ℕ). step_by (slice_index before k == slice_index now k) k (turned some_step k last) ≡ Some (slice_index now r)) (sym same)
          (own_step (slice_index before r == slice_index now r) (turned some_step r last) refl (none_tell r last (omega arith) ∙ is))
      some_by count last false e lt is next =
          other_step (slice_index before count == slice_index now count) count (turned some_step count last) e ∙ next (less_of count r e lt)

      some_tell : (count : ℕ) (last : Option ℕ) → r < count → last ≡ Some (slice_index before r) → turned some_step count last ≡ Some (slice_index now r)
      unfolding some_step
      some_tell zero last lt is = absurd (omega (arith, lt))
      some_tell (suc count) last lt is = some_by count last (nat_eq count r) refl lt is (λ less. some_tell count last less is)

      changed_read : (b : Bool) (k : ℕ) (last : Option ℕ) (rest : List ℕ) → k < length widths →
          read (35 ∷ stop) (id_of r) last ((if b then [] else change (slice_index widths k) (slice_index now k) k) ++ rest) ≡ read (35 ∷ stop) (id_of r) (step_by b k last) rest
      changed_read true k last rest lt = refl
      changed_read false k last rest lt = change_read k (slice_index now k) last rest lt (are.fit k lt)

      some_read : (rest : List ℕ) → read (35 ∷ stop) (id_of r) (Some (slice_index before r)) (joined (changed_at widths before now) (length widths) ++ rest) ≡ read
          (35 ∷ stop) (id_of r) (Some (slice_index now r)) rest
      unfolding some_step
      some_read rest =
          joined_read (35 ∷ stop) (id_of r) (changed_at widths before now) some_step (length widths)
          (λ k lt l t. changed_read (slice_index before k == slice_index now k) k l t lt) (Some (slice_index before r)) rest
          ∙ ap (λ (o : Option ℕ). read (35 ∷ stop) (id_of r) o rest) (some_tell (length widths) (Some (slice_index before r)) low refl)

-- ---- the frames

module _ (widths : List ℕ) (values : ℕ → List ℕ) (n k r : ℕ) (each : (j : ℕ) → j ≤ n → AreValues widths (values j)) (narrow : All (λ w. w ≤ 64) widths)
    (few : length widths < 2 ^ 64) (count : n < 2 ^ 32) (within : k ≤ n) (low : r < length widths) where
  abbrev stop : List ℕ
  stop = time_line (k + 1)

  abbrev reads : Option ℕ → List ℕ → Option ℕ
  reads last text = read stop (id_of r) last text

  abbrev value_of : ℕ → ℕ
  value_of j = slice_index (values j) r

  -- the line of a number of cycles that is not the next
  time_passed : (j : ℕ) (last : Option ℕ) (rest : List ℕ) → j ≤ n → (j ≡ k + 1 → ⊥) → reads last (time j ++ rest) ≡ reads last rest
  time_passed j last rest le ne =
      ap (reads last) (append_assoc (time_line j) (10 ∷ []) rest)
      ∙ goes_past stop (id_of r) (time_line j) rest last (is_line (time_line j) (plain_time j (omega (arith, le, count)))) (other_time j (k + 1) (omega
      (arith, le, count)) (omega (arith, within, count)) ne)

  time_stops : (last : Option ℕ) (rest : List ℕ) → reads last (time (k + 1) ++ rest) ≡ last
  time_stops last rest =
      ap (reads last) (append_assoc (time_line (k + 1)) (10 ∷ []) rest)
      ∙ line_read stop (id_of r) (time_line (k + 1)) rest last (is_line (time_line (k + 1)) (plain_time (k + 1) (omega (arith, within, count))))
      ∙ ap (λ (b : Bool). if b then last else reads (later last (told (id_of r) (time_line (k + 1)))) rest) (same_time (k + 1))

  dumpvars_passed : (last : Option ℕ) (rest : List ℕ) → reads last (codes "$dumpvars" ++ 10 ∷ rest) ≡ reads last rest
  dumpvars_passed last rest = goes_past stop (id_of r) (codes "$dumpvars") rest last
      (is_line (codes "$dumpvars") (refl, (refl, (refl, (refl, (refl, (refl, (refl, (refl, (refl, tt)))))))))) refl

  end_passed : (last : Option ℕ) (rest : List ℕ) → reads last (codes "$end" ++ 10 ∷ rest) ≡ reads last rest
  end_passed last rest = goes_past stop (id_of r) (codes "$end") rest last (is_line (codes "$end") (refl, (refl, (refl, (refl, tt))))) refl

  first_parts : (rest : List ℕ) → first_frame widths (values 0) ++ rest
      ≡ time 0 ++ (codes "$dumpvars" ++ 10 ∷ (joined (change_at widths (values 0)) (length widths) ++ (codes "$end" ++ 10 ∷ rest)))
  first_parts rest =
      let all = joined (change_at widths (values 0)) (length widths) in
      append_assoc (((time 0 ++ codes "$dumpvars") ++ 10 ∷ all) ++ codes "$end") (10 ∷ []) rest
      ∙ append_assoc ((time 0 ++ codes "$dumpvars") ++ 10 ∷ all) (codes "$end") (10 ∷ rest)
      ∙ append_assoc (time 0 ++ codes "$dumpvars") (10 ∷ all) (codes "$end" ++ 10 ∷ rest)
      ∙ append_assoc (time 0) (codes "$dumpvars") (10 ∷ (all ++ (codes "$end" ++ 10 ∷ rest)))

  first_read : (last : Option ℕ) (rest : List ℕ) → reads last (first_frame widths (values 0) ++ rest) ≡ reads (Some (value_of 0)) rest
  first_read last rest =
      let all = joined (change_at widths (values 0)) (length widths) in
      ap (reads last) (first_parts rest)
      ∙ time_passed 0 last (codes "$dumpvars" ++ 10 ∷ (all ++ (codes "$end" ++ 10 ∷ rest))) (omega arith) (λ e. omega (arith, e))
      ∙ dumpvars_passed last (all ++ (codes "$end" ++ 10 ∷ rest))
      ∙ all_read (decimal (k + 1)) widths r narrow few low (values 0) (each 0 (omega arith)) last (codes "$end" ++ 10 ∷ rest)
      ∙ end_passed (Some (value_of 0)) rest

  -- a frame that is not the next
  frame_read : (j : ℕ) (rest : List ℕ) → suc j ≤ n → (suc j ≡ k + 1 → ⊥) →
      reads (Some (value_of j)) (frame (suc j) widths (values j) (values (suc j)) ++ rest) ≡ reads (Some (value_of (suc j))) rest
  frame_read j rest le ne =
      let some = joined (changed_at widths (values j) (values (suc j))) (length widths) in
      ap (reads (Some (value_of j))) (append_assoc (time (suc j)) some rest)
      ∙ time_passed (suc j) (Some (value_of j)) (some ++ rest) le ne
      ∙ some_read (decimal (k + 1)) widths r narrow few low (values (suc j)) (each (suc j) le) (values j) rest

  -- frames up to the one that is asked for
  frames_to : (j : ℕ) (last : Option ℕ) (rest : List ℕ) → j ≤ k → reads last (frames widths values j ++ rest) ≡ reads (Some (value_of j)) rest
  frames_to zero last rest le = first_read last rest
  frames_to (suc j) last rest le =
      ap (reads last) (append_assoc (frames widths values j) (frame (suc j) widths (values j) (values (suc j))) rest)
      ∙ frames_to j last (frame (suc j) widths (values j) (values (suc j)) ++ rest) (omega (arith, le))
      ∙ frame_read j rest (omega (arith, le, within)) (λ e. omega (arith, le, e))

  past_by : (j : ℕ) (last : Option ℕ) (rest : List ℕ) (b : Bool) → nat_eq j k ≡ b → k < suc j →
      (k < j → reads last (frames widths values j ++ (frame (suc j) widths (values j) (values (suc j)) ++ rest)) ≡ Some (value_of k)) →
      reads last (frames widths values j ++ (frame (suc j) widths (values j) (values (suc j)) ++ rest)) ≡ Some (value_of k)
  past_by j last rest true e lt next =
      let same : j ≡ k = grind (arith, e) in
      let one : suc j ≡ k + 1 = omega (arith, same) in
      let some = joined (changed_at widths (values j) (values (suc j))) (length widths) in
      frames_to j last (frame (suc j) widths (values j) (values (suc j)) ++ rest) (omega (arith, same))
      ∙ ap (reads (Some (value_of j))) (append_assoc (time (suc j)) some rest)
      ∙ ap (λ (i : ℕ). reads (Some (value_of j)) (time i ++ (some ++ rest))) one
      ∙ time_stops (Some (value_of j)) (some ++ rest)
      ∙ ap (λ (i : ℕ). Some (value_of i)) same
  past_by j last rest false e lt next = next (less_of j k e lt)

  -- and those behind it
  frames_past : (j : ℕ) (last : Option ℕ) (rest : List ℕ) → k < j → j ≤ n → reads last (frames widths values j ++ rest) ≡ Some (value_of k)
  frames_past zero last rest lt le = absurd (omega (arith, lt))
  frames_past (suc j) last rest lt le =
      ap (reads last) (append_assoc (frames widths values j) (frame (suc j) widths (values j) (values (suc j))) rest)
      ∙ past_by j last rest (nat_eq j k) refl lt
      (λ less. frames_past j last (frame (suc j) widths (values j) (values (suc j)) ++ rest) less (omega (arith, le)))

  all_frames : (b : Bool) → nat_eq n k ≡ b → (last : Option ℕ) → reads last (frames widths values n ++ []) ≡ Some (value_of k)
  all_frames true e last =
      let same : n ≡ k = grind (arith, e) in
      frames_to n last [] (omega (arith, same)) ∙ ap (λ (i : ℕ). Some (value_of i)) same
  all_frames false e last = frames_past n last [] (let ne : n ≡ k → ⊥ = λ same. grind (arith, e, same) in omega (arith, within, ne)) (omega arith)

  -- a line of the head
  head_line : (last : Option ℕ) (line rest : List ℕ) → IsHeadLine line → reads last (line ++ 10 ∷ rest) ≡ reads last rest
  head_line last line rest h =
      ap (λ (l : List ℕ). reads last (l ++ 10 ∷ rest)) h.is
      ∙ goes_past stop (id_of r) (36 ∷ h.rest) rest last (All-cons (λ b. (b == 10) ≡ false) 36 h.rest refl h.one) refl

  head_read : (head : List (List ℕ)) (last : Option ℕ) (rest : List ℕ) → All IsHeadLine head → reads last (unlines head ++ rest) ≡ reads last rest
  head_read [] last rest all = refl
  head_read (line ∷ head) last rest all =
      ap (reads last) (append_assoc line (10 ∷ unlines head) rest)
      ∙ head_line last line (unlines head ++ rest) (All-head IsHeadLine line head all)
      ∙ head_read head last rest (All-tail IsHeadLine line head all)

  pub recovers_one : (head : List (List ℕ)) → All IsHeadLine head → reads None (unlines head ++ frames widths values n) ≡ Some (value_of k)
  recovers_one head all =
      head_read head None (frames widths values n) all
      ∙ ap (reads None) (sym (append-nil (frames widths values n)))
      ∙ all_frames (nat_eq n k) refl None

pub recovers : Recovers
recovers head widths values n k r all each narrow few count within low = recovers_one widths values n k r each narrow few count within low head all
