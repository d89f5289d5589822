-- What the loop keeps: the tokens so far are those of the pieces before the rest.
use Rattle.std.proofs.Common.{◌≡◌, ℕ, ◌+◌, ◌-◌, ◌<◌, ◌≤◌, List, [], ◌∷◌, ◌++◌, length, drop, Some, None, true, false, refl, sym, ap, ◌∙◌, subst, length-append, arith}
use Rattle.std.specs.Prelude.{Ok, Err}
use Rattle.std.proofs.lemmas.List.{nil_from_length}
use Rattle.c_token.specs.declared.token.Token.{Token}
use Rattle.c_token.specs.Spelling.{Bytes}
use Rattle.c_lexer.specs.declared.meaning.Action.{Action}
use Rattle.c_lexer.specs.declared.meaning.Action.TheVariants as action
use Rattle.c_lexer.specs.declared.fault.LexFault.{LexFault}
use Rattle.c_lexer.specs.declared.fault.LexFault.TheVariants.{Bad, Limit, Memory}
use Rattle.c_lexer.specs.Meaning.{State, start, after}
use Rattle.c_lexer.specs.Texts.{Piece, IsPiece, Splits, with_token, tokens, with_end, may_end, limit_of, IsWithin, Reaches, IsStuck, fault_place, Lexed}
use Rattle.c_lexer.specs.Stepping.{Steps, StepFails}
use Rattle.c_lexer.proofs.Steps.{piece_found, piece_cut, no_piece}

-- ---- one more piece

pub split_more : (at k : ℕ) (s : State) (text : Bytes) (ps : List Piece) (t : State) (rest : Bytes) (p : Piece) (more : Bytes)
    → Splits at s text ps t rest → k + length rest ≡ at + length text → rest ≡ p.bytes ++ more → IsPiece k t p more
    → Splits at s text (ps ++ (p ∷ [])) (after p.effect p.bytes t) more
split_more at k s text [] t rest p more h place cut is =
    let same : k ≡ at = omega (arith, ap length h.1) in
    (more, h.1 ∙ cut, subst (λ u. IsPiece at u p more) (sym h.0) (subst (λ n. IsPiece n t p more) same is), (ap (after p.effect p.bytes) h.0, refl))
split_more at k s text (q ∷ ps) t rest p more h place cut is =
    (h.0, h.1, h.2, split_more (at + length q.bytes) k (after q.effect q.bytes s) h.0 ps t rest p more h.3 (omega (arith, place, ap length h.1, length-append q.bytes h.0)) cut is)

with_append : (at : ℕ) (a : Action) (xs ys : List Token) → with_token at a (xs ++ ys) ≡ with_token at a xs ++ ys
with_append at action.Nothing xs ys = refl
with_append at (action.Token k) xs ys = refl
with_append at action.Name xs ys = refl
with_append at (action.Value n) xs ys = refl

token_more : (at k : ℕ) (s : State) (text : Bytes) (ps : List Piece) (t : State) (rest : Bytes) (p : Piece)
    → Splits at s text ps t rest → k + length rest ≡ at + length text → tokens at (ps ++ (p ∷ [])) ≡ tokens at ps ++ with_token k p.effect.action []
token_more at k s text [] t rest p h place =
    let same : at ≡ k = omega (arith, ap length h.1) in
    ap (λ n. with_token n p.effect.action []) same
token_more at k s text (q ∷ ps) t rest p h place =
    let more = token_more (at + length q.bytes) k (after q.effect q.bytes s) h.0 ps t rest p h.3 (omega (arith, place, ap length h.1, length-append q.bytes h.0)) in
    ap (with_token at q.effect.action) more ∙ with_append at q.effect.action (tokens (at + length q.bytes) ps) (with_token k p.effect.action [])

pub count_more : (at : ℕ) (a : Action) (ts : List Token) → length (with_token at a ts) ≡ length (with_token 0 a []) + length ts
count_more at action.Nothing ts = omega arith
count_more at (action.Token k) ts = omega arith
count_more at action.Name ts = omega arith
count_more at (action.Value n) ts = omega arith

within_more : (at n : ℕ) (ps : List Piece) (p : Piece) → IsWithin n ps → limit_of (length (tokens at ps) + n) p ≡ None → IsWithin n (ps ++ (p ∷ []))
within_more at n [] p h last = let same : 0 + n ≡ n = omega arith in (subst (λ m. limit_of m p ≡ None) same last, tt)
within_more at n (q ∷ ps) p h last =
    let same : length (tokens at (q ∷ ps)) + n ≡ length (tokens (at + length q.bytes) ps) + (length (with_token 0 q.effect.action []) + n) =
    omega (arith, count_more at q.effect.action (tokens (at + length q.bytes) ps)) in
    (h.0, within_more (at + length q.bytes) (length (with_token 0 q.effect.action []) + n) ps p h.1 (subst (λ m. limit_of m p ≡ None) same last))

-- ---- the loop

pub record Done (text : Bytes) (ts : List Token) (s : State) (rest : Bytes) : Type 0 where
  pub pieces : List Piece
  pub reaches : Reaches text pieces (length text - length rest) s rest
  pub are : ts ≡ tokens 0 pieces
  pub within : length rest ≤ length text

pub none_done : (text : Bytes) (s : State) → s ≡ start → Done text [] s text
none_done text s e = record {
  pieces = [];
  reaches = record { split = (sym e, refl); place = omega arith; within = tt };
  are = refl;
  within = omega arith;
}

pub moves : (at : ℕ) (z : Bytes) (s t : State) (ts us : List Token) (more : Bytes) → Steps at z s ts t us more → length more < length z
moves at z s t ts us more h =
    let first = piece_cut at s z h.piece h.found in
    omega (arith, ap length h.rest, ap length first.whole, length-append h.piece.bytes (drop (length h.piece.bytes) z), first.some)

pub one_done : (text : Bytes) (ts : List Token) (s : State) (rest : Bytes) (t : State) (us : List Token) (more : Bytes)
    → Done text ts s rest → Steps (length text - length rest) rest s ts t us more → Done text us t more
one_done text ts s rest t us more done h =
    let k : ℕ = length text - length rest in
    let p : Piece = h.piece in
    let first = piece_cut k s rest p h.found in
    let behind : Bytes = drop (length p.bytes) rest in
    let place : k + length rest ≡ 0 + length text = omega (arith, done.within) in
    let fewer : length behind + length p.bytes ≡ length rest = omega (arith, ap length first.whole, length-append p.bytes behind) in
    let split : Splits 0 start text (done.pieces ++ (p ∷ [])) (after p.effect p.bytes s) behind =
    split_more 0 k start text done.pieces s rest p behind done.reaches.split place first.whole first.is in
    let here : limit_of (length (tokens 0 done.pieces) + 0) p ≡ None =
    subst (λ n. limit_of n p ≡ None) (let e : length ts ≡ length (tokens 0 done.pieces) + 0 = omega (arith, ap length done.are) in e) h.takes.within in
    let there : Done text us t behind = record {
      pieces = done.pieces ++ (p ∷ []);
      reaches = record {
        split = subst (λ u. Splits 0 start text (done.pieces ++ (p ∷ [])) u behind) (sym h.takes.state) split;
        place = omega (arith, done.within, fewer);
        within = within_more 0 0 done.pieces p done.reaches.within here;
      };
      are = h.takes.tokens ∙ ap (λ l. l ++ with_token k p.effect.action []) done.are ∙ sym (token_more 0 k start text done.pieces s rest p done.reaches.split place);
      within = omega (arith, done.within, fewer);
    } in
    subst (Done text us t) (sym h.rest) there

-- ---- its exits

nonempty : {A : Type 0} (z : Bytes) → 0 < length z → z ≡ [] → A
nonempty z some e = absurd (omega (arith, ap length e))

pub step_failed : (text : Bytes) (ts : List Token) (s : State) (rest : Bytes) (fault : LexFault)
    → Done text ts s rest → 0 < length rest → StepFails (length text - length rest) rest s ts fault → Lexed text (Err fault)
step_failed text ts s rest (Bad k) done some h =
    let at : ℕ = length text - length rest in
    let stuck : IsStuck at s rest = record { none = λ p more e is. no_piece at s rest p more h.0 e is; unfinished = λ e. nonempty rest some e } in
    record { pieces = done.pieces; at = at; state = s; rest = rest; reaches = done.reaches; ends = (stuck, h.1) }
step_failed text ts s rest (Limit which count k) done some h =
    let at : ℕ = length text - length rest in
    let p : Piece = h.0 in
    let first = piece_cut at s rest p h.1 in
    let passed : limit_of (length (tokens 0 done.pieces)) p ≡ Some (which, count) = subst (λ n. limit_of n p ≡ Some (which, count)) (ap length done.are) h.2 in
    record {
      pieces = done.pieces;
      at = at;
      state = s;
      rest = rest;
      reaches = done.reaches;
      ends = (p, drop (length p.bytes) rest, first.whole, first.is, passed, h.3);
    }
step_failed text ts s rest Memory done some h = tt

pub no_first : {A : Type 0} (at : ℕ) (s : State) (p : Piece) (z more : Bytes) → length z ≡ 0 → z ≡ p.bytes ++ more → IsPiece at s p more → A
no_first at s p z more none e is =
    let first = piece_cut at s (p.bytes ++ more) p (piece_found at s p more is) in
    absurd (omega (arith, none, ap length e, first.some, first.within))

pub unfinished : (text : Bytes) (ts : List Token) (s : State) (rest : Bytes) (k : ℕ)
    → Done text ts s rest → length rest ≡ 0 → may_end s.mode ≡ false → k ≡ fault_place s.mode (length text) rest → Lexed text (Err (Bad k))
unfinished text ts s rest k done none more h =
    let at : ℕ = length text - length rest in
    let place : length text ≡ at = omega (arith, none) in
    let stuck : IsStuck at s rest = record { none = λ p more e is. no_first at s p rest more none e is; unfinished = λ e. more } in
    record { pieces = done.pieces; at = at; state = s; rest = rest; reaches = done.reaches; ends = (stuck, h ∙ ap (λ n. fault_place s.mode n rest) place) }

pub finished : (text : Bytes) (ts us : List Token) (s : State) (rest : Bytes)
    → Done text ts s rest → length rest ≡ 0 → may_end s.mode ≡ true → us ≡ with_end text ts → Lexed text (Ok us)
finished text ts us s rest done none may h =
    record {
      pieces = done.pieces;
      at = length text - length rest;
      state = s;
      rest = rest;
      reaches = done.reaches;
      ends = (nil_from_length rest none, may, h ∙ ap (with_end text) done.are);
    }
