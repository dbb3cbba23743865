-- Turns and batches that are added to a plan.
use Rattle.std.proofs.Common.{◌≡◌, Bool, true, List, [], ◌∷◌, ◌++◌, inl, Some, None, Result, Ok, Err, refl, sym, ap, subst, ◌∙◌, arith}
use Rattle.std.specs.Prelude.{OnOk, if◌then◌else◌}
use Rattle.std.proofs.lemmas.Int.{ints}
use Rattle.std.proofs.lemmas.List.{append-nil, append_assoc}
use Rattle.batch_codec.specs.Values.{BatchValue}
use Rattle.batch_codec.specs.Offsets.{first_offset}
use Rattle.content.specs.ByOffset.{put}
use Rattle.content_laws.proofs.Batches.{Batches}
use Rattle.segment.specs.BatchLists.{MeetsNone}
use Rattle.segment.specs.declared.turn.Turn.{Turn}
use Rattle.segment.specs.declared.turn.Turn.TheVariants.{Stay, Go, Come}
use Rattle.segment.specs.Weaving.{woven}
use Rattle.side_by_side.specs.Plans.{EndBefore, Adds}

pub put_last : (b : BatchValue) (bs : Batches) → EndBefore (first_offset b) bs → put first_offset b bs ≡ bs ++ b ∷ []
unfolding put
put_last b [] before = refl
put_last b (x ∷ bs) before = grind (arith, ints, put_last b bs before.1, before.0.0)

pub behind_meets_none : (b : BatchValue) (bs : Batches) → EndBefore (first_offset b) bs → MeetsNone b bs
behind_meets_none b [] before = tt
behind_meets_none b (x ∷ bs) before = (inl before.0.1, behind_meets_none b bs before.1)

pub stays : (x : BatchValue) (ts us : List Turn) (ms ns : Batches) → us ≡ ts ++ Stay ∷ [] → ns ≡ ms → Adds (Some x) (Some x) ts us ms ns
stays x ts us ms ns turns more = record { turns = Stay ∷ []; batches = []; more_turns = turns; more_batches = more ∙ sym (append-nil ms); makes = λ rest xs ys. refl; brings = tt }

pub goes : (x : BatchValue) (ts us : List Turn) (ms ns : Batches) → us ≡ ts ++ Go ∷ [] → ns ≡ ms → Adds (Some x) None ts us ms ns
goes x ts us ms ns turns more = record { turns = Go ∷ []; batches = []; more_turns = turns; more_batches = more ∙ sym (append-nil ms); makes = λ rest xs ys. refl; brings = tt }

come : (rest : List Turn) (xs : Batches) (y : BatchValue) (ys : Batches) → woven (Come ∷ rest) xs (y ∷ ys) ≡ y ∷ woven rest xs ys
come rest [] y ys = refl
come rest (x ∷ xs) y ys = refl

pub comes_in : (y : BatchValue) (ts us : List Turn) (ms ns : Batches) → us ≡ ts ++ Come ∷ [] → ns ≡ ms ++ y ∷ [] → Adds None (Some y) ts us ms ns
comes_in y ts us ms ns turns more = record { turns = Come ∷ []; batches = y ∷ []; more_turns = turns; more_batches = more; makes = λ rest xs ys. come rest xs y ys; brings = (refl, tt) }

pub nothing_comes : (ts us : List Turn) (ms ns : Batches) → us ≡ ts → ns ≡ ms → Adds None None ts us ms ns
nothing_comes ts us ms ns turns more = record { turns = []; batches = []; more_turns = turns ∙ sym (append-nil ts); more_batches = more ∙ sym (append-nil ms); makes = λ rest xs ys. refl; brings = tt }

pub replaced : (x z : BatchValue) (ts us vs : List Turn) (ms ns : Batches) → us ≡ ts ++ Go ∷ [] → vs ≡ us ++ Come ∷ [] → ns ≡ ms ++ z ∷ [] → Adds (Some x) (Some z) ts vs ms ns
replaced x z ts us vs ms ns goes comes more = record {
  turns = Go ∷ Come ∷ [];
  batches = z ∷ [];
  more_turns = comes ∙ ap (λ (t : List Turn). t ++ Come ∷ []) goes ∙ append_assoc ts (Go ∷ []) (Come ∷ []);
  more_batches = more;
  makes = λ rest xs ys. come rest xs z ys;
  brings = (refl, tt);
}

pub nothing : (ts : List Turn) (ms : Batches) → Adds None None ts ts ms ms
nothing ts ms = nothing_comes ts ts ms ms refl refl

pub nothing_where : (seen : Bool) (y : BatchValue) (ts : List Turn) (ms : Batches) → seen ≡ true → Adds None (if seen then None else Some y) ts ts ms ms
nothing_where seen y ts ms is = subst (λ (t : Bool). Adds None (if t then None else Some y) ts ts ms ms) (sym is) (nothing ts ms)

-- ---- the same, of what may lack memory

pub stays_on_ok : {T E : Type 0} (r : Result T E) (x z : BatchValue) (ts us : List Turn) (ms ns : Batches) → z ≡ x → OnOk r (us ≡ ts ++ Stay ∷ []) → ns ≡ ms → OnOk r (Adds (Some x) (Some z) ts us ms ns)
stays_on_ok (Err e) x z ts us ms ns same turns more = tt
stays_on_ok (Ok u) x z ts us ms ns same turns more = subst (λ (b : BatchValue). Adds (Some x) (Some b) ts us ms ns) (sym same) (stays x ts us ms ns turns more)

pub replaced_on_ok : {T E : Type 0} (r : Result T E) (z : BatchValue) (ts us vs : List Turn) (ms ls ns : Batches) → us ≡ ts ++ Go ∷ [] → ls ≡ ms → OnOk r (vs ≡ us ++ Come ∷ []) → OnOk r (ns ≡ ls ++ z ∷ [])
    → OnOk r ((x : BatchValue) → Adds (Some x) (Some z) ts vs ms ns)
replaced_on_ok (Err e) z ts us vs ms ls ns goes same comes more = tt
replaced_on_ok (Ok u) z ts us vs ms ls ns goes same comes more = λ x. replaced x z ts us vs ms ns goes comes (more ∙ ap (λ (bs : Batches). bs ++ z ∷ []) same)

pub replaced_by : {T E : Type 0} (r : Result T E) (x z w : BatchValue) (ts us : List Turn) (ms ns : Batches) → z ≡ w → OnOk r ((x : BatchValue) → Adds (Some x) (Some z) ts us ms ns) → OnOk r (Adds (Some x) (Some w) ts us ms ns)
replaced_by (Err e) x z w ts us ms ns same does = tt
replaced_by (Ok u) x z w ts us ms ns same does = subst (λ (b : BatchValue). Adds (Some x) (Some b) ts us ms ns) same (does x)
