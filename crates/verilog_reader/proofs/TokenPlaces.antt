-- Where the tokens of a lexed text stand.
use Rattle.std.specs.Prelude.{◌≡◌, ℕ, zero, suc, ◌+◌, ◌<◌, ◌≤◌, Bool, true, false, nat_lt, List, [], ◌∷◌, ◌++◌, length, take, Some, None, unwrap_or, slice_get}
use Rattle.std.proofs.Common.{refl, sym, ap, ◌∙◌, subst, add-one, arith}
use Rattle.std.proofs.lemmas.Bool.{ltb-true, ltb-false}
use Rattle.std.proofs.lemmas.List.{append-nil, take_all}
use Rattle.std.proofs.lemmas.Option.{same_Some}
use Rattle.verilog_tree.specs.declared.token.Token.{Token}
use Rattle.verilog_tree.specs.declared.tree.Net.{Net}
use Rattle.verilog_tree.specs.Spelling.{Text}
use Rattle.verilog_tree.specs.Tokens.{front, skip, Splits}
use Rattle.verilog_tree.specs.Grammar as g
use Rattle.verilog_tree.specs.Reads.{IsFull, Reads}
use Rattle.verilog_rules.specs.Leads.{Leads, Starts, IsSyntaxFault}
use Rattle.verilog_rules.specs.Laws.{DepartsAt}
use Rattle.verilog_lexer.specs.declared.tokens.Lexed.{Lexed}
use Rattle.verilog_lexer.specs.Lexed.{Lexes, EndsWith, IsLexed}
use Rattle.verilog_reader.specs.Answers.{offset_at}

-- ---- what stands behind some of the tokens

pub record Place (size : ℕ) (text : Text) (ts : List Token) (starts : List ℕ) (end : ℕ) (rest : Text) (k : ℕ) : Type 0 where
  pub here : Text
  pub leads : Leads text (take k ts) here
  pub offset : unwrap_or (slice_get starts k) end + length here ≡ size
  pub more : k < length ts → (t : Token) × (behind : Text) × (front here ≡ Some (t, behind)) × (take (suc k) ts ≡ take k ts ++ t ∷ [])
  pub none : length ts ≤ k → here ≡ rest

pub place : (size : ℕ) (text : Text) (ts : List Token) (starts : List ℕ) (rest : Text) (end : ℕ) → Lexes size (skip false text) ts starts rest → end + length rest ≡ size
    → (k : ℕ)
    → Place size text ts starts end rest k
place size text [] [] rest end h e zero = record { here = rest; leads = h; offset = e; more = λ lt. absurd (omega arith); none = λ le. refl }
place size text [] [] rest end h e (suc k) = record { here = rest; leads = h; offset = e; more = λ lt. absurd (omega arith); none = λ le. refl }
place size text [] (s ∷ starts) rest end h e k = absurd h
place size text (t ∷ ts) [] rest end h e k = absurd h
place size text (t ∷ ts) (s ∷ starts) rest end h e zero = record {
  here = skip false text;
  leads = refl;
  offset = h.2;
  more = λ lt. (t, h.0, h.1, refl);
  none = λ le. absurd (omega arith);
}
place size text (t ∷ ts) (s ∷ starts) rest end h e (suc k) =
    let p = place size h.0 ts starts rest end h.3 e k in
    record {
      here = p.here;
      leads = (h.0, h.1, p.leads);
      offset = p.offset;
      more = λ lt. let q = p.more (omega arith) in (q.0, q.1, q.2, ap (λ l. t ∷ l) q.3);
      none = λ le. p.none (omega arith);
    }

nothing : (z : Text) (t : Token) (behind : Text) → z ≡ [] → front z ≡ Some (t, behind) → ⊥
unfolding front
nothing z t behind e h = let no : front [] ≡ Some (t, behind) = ap front (sym e) ∙ h in cc (no)

same_pair : (p q : Token × Text) → Some p ≡ Some q → (p.0 ≡ q.0) × (p.1 ≡ q.1)
same_pair p q e = let same : p ≡ q = same_Some _ _ e in (ap (λ x. x.0) same, ap (λ x. x.1) same)

-- ---- whole texts

splits_all : (size : ℕ) (text : Text) (ts : List Token) (starts : List ℕ) (rest : Text) → Lexes size (skip false text) ts starts rest → rest ≡ [] → Splits text ts
unfolding Splits
splits_all size text [] [] rest h e = h ∙ e
splits_all size text [] (s ∷ starts) rest h e = absurd h
splits_all size text (t ∷ ts) [] rest h e = absurd h
splits_all size text (t ∷ ts) (s ∷ starts) rest h e = (h.0, h.1, splits_all size h.0 ts starts rest h.3 e)

no_token : (w : Bool) (z : Text) (t : Token) (behind : Text) → EndsWith w z → front z ≡ Some (t, behind) → ⊥
no_token true z t behind ends h = nothing z t behind ends h
no_token false z t behind ends h = let no : Some (t, behind) ≡ None = sym h ∙ ends.1 in cc (no)

ends_whole : (w : Bool) (z : Text) → EndsWith w z → z ≡ [] → w ≡ true
ends_whole true z ends e = refl
ends_whole false z ends e = absurd (ends.0 e)

split_same : (size : ℕ) (text : Text) (ts : List Token) (starts : List ℕ) (rest : Text) (w : Bool) → Lexes size (skip false text) ts starts rest → EndsWith w rest
    → (us : List Token) → Splits text us → (w ≡ true) × (us ≡ ts)
unfolding Splits
split_same size text [] [] rest w h ends [] s = (ends_whole w rest ends (sym h ∙ s), refl)
split_same size text [] [] rest w h ends (u ∷ us) s = absurd (no_token w rest u s.0 ends (ap front (sym h) ∙ s.1))
split_same size text [] (x ∷ starts) rest w h ends us s = absurd h
split_same size text (t ∷ ts) [] rest w h ends us s = absurd h
split_same size text (t ∷ ts) (x ∷ starts) rest w h ends [] s = absurd (nothing (skip false text) t h.0 s h.1)
split_same size text (t ∷ ts) (x ∷ starts) rest w h ends (u ∷ us) s =
    let both = same_pair (u, s.0) (t, h.0) (sym s.1 ∙ h.1) in
    let more = split_same size h.0 ts starts rest w h.3 ends us (subst (λ z. Splits z us) both.1 s.2) in
    (more.0, (λ i. both.0 i ∷ more.1 i))

module _ (text : Text) (l : Lexed) (lexed : IsLexed text l) where
  pub at : (k : ℕ) → Place (length text) text l.tokens l.starts l.end lexed.rest k
  at k = place (length text) text l.tokens l.starts lexed.rest l.end lexed.lexes lexed.place k

  pub one : (n : Net) → Reads text n → (l.is_whole ≡ true) × (g.net n ≡ l.tokens)
  one n r = split_same (length text) text l.tokens l.starts lexed.rest l.is_whole lexed.lexes lexed.ends (g.net n) r.tokens

  whole_rest : (w : Bool) → w ≡ true → EndsWith w lexed.rest → lexed.rest ≡ []
  whole_rest true e h = h
  whole_rest false e h = cc

  pub reads_of : (n : Net) → l.tokens ≡ g.net n → IsFull n → l.is_whole ≡ true → Reads text n
  reads_of n e full whole = record {
    tokens = subst (Splits text) e (splits_all (length text) text l.tokens l.starts lexed.rest lexed.lexes (whole_rest l.is_whole whole lexed.ends));
    full = full;
  }

  pub fault_at : (k : ℕ) → DepartsAt l.tokens k → IsSyntaxFault text (offset_at l k)
  fault_at k d = record { before = take k l.tokens; rest = p.here; leads = p.leads; place = p.offset; begun = d.begun; stuck = stuck; cut = cut } where
    p : Place (length text) text l.tokens l.starts l.end lexed.rest k
    p = at k

    stuck : (t : Token) (behind : Text) → front p.here ≡ Some (t, behind) → Starts (take k l.tokens ++ t ∷ []) → ⊥
    stuck t behind f s = by (nat_lt k (length l.tokens)) refl where
      by : (v : Bool) → nat_lt k (length l.tokens) ≡ v → ⊥
      by true e =
          let lt = ltb-true k (length l.tokens) e in
          let q = p.more lt in
          let same = same_pair (q.0, q.1) (t, behind) (sym q.2 ∙ f) in
          let one_more : take k l.tokens ++ t ∷ [] ≡ take (k + 1) l.tokens = ap (λ x. take k l.tokens ++ x ∷ []) (sym same.0) ∙ sym q.3 ∙ ap (λ i. take i l.tokens) (sym
          (add-one k)) in
          d.stuck lt (subst Starts one_more s)
      by false e = no_token l.is_whole lexed.rest t behind lexed.ends (ap front (sym (p.none (ltb-false k (length l.tokens) e))) ∙ f)

    cut : p.here ≡ [] → (n : Net) → Reads text n → ⊥
    cut e n r = by (nat_lt k (length l.tokens)) refl where
      by : (v : Bool) → nat_lt k (length l.tokens) ≡ v → ⊥
      by true f = let q = p.more (ltb-true k (length l.tokens) f) in nothing p.here q.0 q.1 e q.2
      by false f =
          let le = ltb-false k (length l.tokens) f in
          let inside = d.inside in
          let all : k ≡ length l.tokens = omega (arith, le, inside) in
          d.cut all n (sym (one n r).1) r.full

  pub bad_token : (n : Net) → l.tokens ≡ g.net n → IsFull n → l.is_whole ≡ false → IsSyntaxFault text (offset_at l (length l.tokens))
  bad_token n e full bad = record { before = take (length l.tokens) l.tokens; rest = p.here; leads = p.leads; place = p.offset; begun = begun; stuck = stuck; cut = cut } where
    p : Place (length text) text l.tokens l.starts l.end lexed.rest (length l.tokens)
    p = at (length l.tokens)

    is_rest : p.here ≡ lexed.rest
    is_rest = p.none (omega arith)

    ends : (w : Bool) → w ≡ false → EndsWith w lexed.rest → (lexed.rest ≡ [] → ⊥) × (front lexed.rest ≡ None)
    ends true f h = cc
    ends false f h = h

    end : (lexed.rest ≡ [] → ⊥) × (front lexed.rest ≡ None)
    end = ends l.is_whole bad lexed.ends

    begun : Starts (take (length l.tokens) l.tokens)
    begun = record { net = n; more = []; is = sym e ∙ sym (take_all (length l.tokens) l.tokens (omega arith)) ∙ sym (append-nil (take (length l.tokens) l.tokens)); full = full }

    stuck : (t : Token) (behind : Text) → front p.here ≡ Some (t, behind) → Starts (take (length l.tokens) l.tokens ++ t ∷ []) → ⊥
    stuck t behind f s = let no : Some (t, behind) ≡ None = sym f ∙ ap front is_rest ∙ end.1 in cc (no)

    cut : p.here ≡ [] → (m : Net) → Reads text m → ⊥
    cut f m r = end.0 (sym is_rest ∙ f)

-- ---- a text with a syntax fault spells no net

record Led (before us : List Token) (rest : Text) : Type 0 where
  more : List Token
  all : us ≡ before ++ more
  splits : (t : Token) (ts : List Token) → more ≡ t ∷ ts → (behind : Text) × (front rest ≡ Some (t, behind))
  ends : more ≡ [] → rest ≡ []

led : (text : Text) (before us : List Token) (rest : Text) → Leads text before rest → Splits text us → Led before us rest
unfolding Splits
led text [] [] rest h s = record { more = []; all = refl; splits = λ t ts e. absurd (no_cons t ts e); ends = λ e. sym h ∙ s } where
  no_cons : (t : Token) (ts : List Token) → [] ≡ t ∷ ts → ⊥
  no_cons t ts e = cc
led text [] (u ∷ us) rest h s = record {
  more = u ∷ us;
  all = refl;
  splits = λ t ts e. (s.0, ap front (sym h) ∙ s.1 ∙ ap (λ x. Some (x, s.0)) (head_same u t us ts e));
  ends = λ e. absurd (no_nil e);
} where
  head_same : (u t : Token) (us ts : List Token) → u ∷ us ≡ t ∷ ts → u ≡ t
  head_same u t us ts e = cc

  no_nil : u ∷ us ≡ [] → ⊥
  no_nil e = cc
led text (x ∷ before) [] rest h s = absurd (nothing (skip false text) x h.0 s h.1)
led text (x ∷ before) (u ∷ us) rest h s =
    let both = same_pair (u, s.0) (x, h.0) (sym s.1 ∙ h.1) in
    let r = led h.0 before us rest h.2 (subst (λ z. Splits z us) both.1 s.2) in
    record { more = r.more; all = (λ i. both.0 i ∷ r.all i); splits = r.splits; ends = r.ends }

pub fault_no_net : (text : Text) (offset : ℕ) (n : Net) → IsSyntaxFault text offset → Reads text n → ⊥
fault_no_net text offset n f r = by q.more refl where
  q : Led f.before (g.net n) f.rest
  q = led text f.before (g.net n) f.rest f.leads r.tokens

  by : (more : List Token) → q.more ≡ more → ⊥
  by [] e = f.cut (q.ends e) n r
  by (t ∷ ts) e =
      let here = q.splits t ts e in
      f.stuck t here.0 here.1 (record { net = n; more = ts; is = q.all ∙ ap (λ m. f.before ++ m) e ∙ sym (regroup f.before t ts); full = r.full })
    where
      regroup : (a : List Token) (t : Token) (ts : List Token) → (a ++ t ∷ []) ++ ts ≡ a ++ (t ∷ ts)
      regroup [] t ts = refl
      regroup (x ∷ a) t ts = ap (λ l. x ∷ l) (regroup a t ts)
