-- Walks over two batches' records side by side. Deltas rise, so what a walk has passed is asked for no more.
use Rattle.std.proofs.Common.{◌≡◌, ℕ, suc, ℤ, pos, negsuc, ◌+ℤ◌, Bool, true, false, cond, ◌&&◌, List, [], ◌∷◌, ◌++◌, length, Option, Some, None, refl, sym, ap, subst, ◌∙◌, arith, IsTrue}
use Rattle.std.specs.Prelude.{◌↔◌, ◌≤ℤ◌, ◌<ℤ◌, is_some, not, if◌then◌else◌}
use Rattle.std.specs.List.{filter}
use Rattle.std.specs.Option.{option_map}
use Rattle.std.specs.Ordering.{int_eq}
use Rattle.std.proofs.lemmas.Int.{ints}
use Rattle.std.proofs.lemmas.List.{append_assoc, append-nil}
use Rattle.batch_codec.specs.Values.{RecordValue, BatchValue}
use Rattle.batch_codec.specs.declared.record.RecordView.{RecordView}
use Rattle.batch_codec.specs.Views.{record_value}
use Rattle.batch_codec.specs.Thinning.{kept_by, thinned}
use Rattle.batch_codec.specs.Grammar.{Writable, AreValidRecords}
use Rattle.batch_codec.specs.Reading.{IsEncoding, batch_of}
use Rattle.content_laws.proofs.BatchParts.{common_self}
use Rattle.content.specs.ByOffset.{look_up, Rises}
use Rattle.content.specs.Records.{record_at_delta, with_common_records}
use Rattle.content_laws.proofs.ByOffset.{look_up-low, rises-lower}
use Rattle.content_laws.proofs.Batches.{Records, delta_of}
use Rattle.batch_codec.specs.declared.head.BatchHead.{BatchHead}
use Rattle.side_by_side.specs.RecordWalks.{at_delta, behind_delta, WalkAlike, walk_has_all, walk_common, walk_flags}
use Rattle.side_by_side.specs.Agreement.{IsAlikeOrNone, AreAlike}

-- ---- what a walk finds, and what it leaves

pub at-look_up : (low d : ℤ) (ss : Records) → Rises delta_of low ss → at_delta d ss ≡ look_up delta_of d ss
at-look_up low d [] rise = refl
at-look_up low d (s ∷ ss) rise = grind (arith, ints, at-look_up (s.delta +ℤ pos 1) d ss rise.1, look_up-low delta_of (s.delta +ℤ pos 1) d ss rise.1)

pub look_up-behind : (low d k : ℤ) (ss : Records) → Rises delta_of low ss → d <ℤ k → look_up delta_of k (behind_delta d ss) ≡ look_up delta_of k ss
look_up-behind low d k [] rise less = refl
look_up-behind low d k (s ∷ ss) rise less = grind (arith, ints, look_up-behind (s.delta +ℤ pos 1) d k ss rise.1 less)

pub behind-rises : (low d : ℤ) (ss : Records) → Rises delta_of low ss → Rises delta_of low (behind_delta d ss)
behind-rises low d [] rise = tt
behind-rises low d (s ∷ ss) rise = grind (arith, ints, behind-rises (s.delta +ℤ pos 1) d ss rise.1, rises-lower delta_of low (s.delta +ℤ pos 1) ss rise.1, rises-lower delta_of low (s.delta +ℤ pos 1) (behind_delta d ss))

-- ---- the common records; `ts` has from `low` on what `ss` has

pub common_is : (low from : ℤ) (rs ss ts : Records) → Rises delta_of low rs → Rises delta_of from ss → ((k : ℤ) → low ≤ℤ k → look_up delta_of k ss ≡ look_up delta_of k ts)
    → walk_common rs ss ≡ filter (λ r. is_some (look_up delta_of r.delta ts)) rs
common_is low from [] ss ts rise from_rise same = refl
common_is low from (r ∷ rs) ss ts rise from_rise same =
    let rest = common_is (r.delta +ℤ pos 1) from rs (behind_delta r.delta ss) ts rise.1 (behind-rises from r.delta ss from_rise)
    (λ k le. look_up-behind from r.delta k ss from_rise (omega (arith, ints, le)) ∙ same k (omega (arith, ints, le, rise.0))) in
    let here : at_delta r.delta ss ≡ look_up delta_of r.delta ts = at-look_up from r.delta ss from_rise ∙ same r.delta rise.0 in
    grind (arith, here, rest)

pub has_all_common : (rs ss : Records) → walk_has_all rs ss ≡ true → walk_common rs ss ≡ rs
has_all_common [] ss e = refl
has_all_common (r ∷ rs) ss e = grind (arith, has_all_common rs (behind_delta r.delta ss))

deltas_rise : (h : BatchHead) (before : ℤ) (rs : Records) → AreValidRecords h before rs → Rises delta_of (before +ℤ pos 1) rs
deltas_rise h before [] valid = tt
deltas_rise h before (r ∷ rs) valid =
    let rises : before <ℤ r.delta = valid.0.rises in
    (omega (arith, ints, rises), deltas_rise h r.delta rs valid.1)

pub records_of_rise : (b : BatchValue) → Writable b → Rises delta_of (pos 0) b.recs
records_of_rise b w = deltas_rise b.head (negsuc 0) b.recs w.valid.records

pub common_of : (x y : BatchValue) → Writable x → Writable y → walk_common x.recs y.recs ≡ (with_common_records x y).recs
common_of x y is_x is_y = common_is (pos 0) (pos 0) x.recs y.recs y.recs (records_of_rise x is_x) (records_of_rise y is_y) (λ k le. refl)

pub all_of : (x y : BatchValue) → Writable x → Writable y → walk_has_all x.recs y.recs ≡ true → with_common_records x y ≡ x
all_of x y is_x is_y e =
    let same : (with_common_records x y).recs ≡ x.recs = sym (common_of x y is_x is_y) ∙ has_all_common x.recs y.recs e in
    λ i. record { head = x.head; recs = same i }

-- ---- equal records

pub alike_from : (low from : ℤ) (rs ss ts : Records) → Rises delta_of low rs → Rises delta_of from ss → ((k : ℤ) → low ≤ℤ k → look_up delta_of k ss ≡ look_up delta_of k ts)
    → WalkAlike rs ss → (d : ℤ) (r s : RecordValue) → look_up delta_of d rs ≡ Some r → look_up delta_of d ts ≡ Some s → r ≡ s
alike_from low from [] ss ts rise from_rise same alike d r s e f = absurd cc
alike_from low from (q ∷ rs) ss ts rise from_rise same alike d r s e f =
    by (int_eq q.delta d) refl e (λ g. alike_from (q.delta +ℤ pos 1) from rs (behind_delta q.delta ss) ts rise.1 (behind-rises from q.delta ss from_rise)
    (λ k le. look_up-behind from q.delta k ss from_rise (omega (arith, ints, le)) ∙ same k (omega (arith, ints, le, rise.0))) alike.1 d r s g f)
  where
    by : (t : Bool) → int_eq q.delta d ≡ t → cond t (Some q) (look_up delta_of d rs) ≡ Some r → (look_up delta_of d rs ≡ Some r → r ≡ s) → r ≡ s
    by true t g rest =
        let at : q.delta ≡ d = grind (arith, ints, t) in
        let is : q ≡ r = cc in
        let found : at_delta q.delta ss ≡ Some s = at-look_up from q.delta ss from_rise ∙ same q.delta rise.0 ∙ ap (λ k. look_up delta_of k ts) at ∙ f in
        sym is ∙ alike.0 s found
    by false t g rest = rest g

pub alike_to : (low from : ℤ) (rs ss ts : Records) → Rises delta_of low rs → Rises delta_of from ss → ((k : ℤ) → low ≤ℤ k → look_up delta_of k ss ≡ look_up delta_of k ts)
    → ((d : ℤ) (r s : RecordValue) → look_up delta_of d rs ≡ Some r → look_up delta_of d ts ≡ Some s → r ≡ s) → WalkAlike rs ss
alike_to low from [] ss ts rise from_rise same alike = tt
alike_to low from (q ∷ rs) ss ts rise from_rise same alike = (
  λ s e. alike q.delta q s (grind (arith, ints)) (sym (same q.delta rise.0) ∙ sym (at-look_up from q.delta ss from_rise) ∙ e),
  alike_to (q.delta +ℤ pos 1) from rs (behind_delta q.delta ss) ts rise.1 (behind-rises from q.delta ss from_rise)
      (λ k le. look_up-behind from q.delta k ss from_rise (omega (arith, ints, le)) ∙ same k (omega (arith, ints, le, rise.0)))
      (λ d r s e f. alike d r s (later d r e (look_up-low delta_of (q.delta +ℤ pos 1) d rs rise.1)) f),
)
  where
    later : (d : ℤ) (r : RecordValue) → look_up delta_of d rs ≡ Some r → (d <ℤ (q.delta +ℤ pos 1) → look_up delta_of d rs ≡ None) → look_up delta_of d (q ∷ rs) ≡ Some r
    later d r e none = grind (arith, ints, e, none)

pub alike_is : (x y : BatchValue) (test : Bool) → Writable x → Writable y → x.head ≡ y.head → (IsTrue test ↔ WalkAlike x.recs y.recs) → (IsTrue test ↔ AreAlike x y)
alike_is x y test is_x is_y head walk = (
  λ t. (head, alike_from (pos 0) (pos 0) x.recs y.recs y.recs (records_of_rise x is_x) (records_of_rise y is_y) (λ k le. refl) (walk.0 t)),
  λ alike. walk.1 (alike_to (pos 0) (pos 0) x.recs y.recs y.recs (records_of_rise x is_x) (records_of_rise y is_y) (λ k le. refl) alike.1),
)

pub alike_same : (x y : BatchValue) → x ≡ y → AreAlike x y
alike_same x y same = (ap (λ (b : BatchValue). b.head) same, λ d r s e f. by d r s e (ap (record_at_delta d) same ∙ f))
  where
    by : (d : ℤ) (r s : RecordValue) → record_at_delta d x ≡ Some r → record_at_delta d x ≡ Some s → r ≡ s
    by d r s e f = cc

-- ---- the loops, a step at a time

pub has_not : (rs next ss : Records) (r : RecordView) (found : Option RecordView) (missing total : Bool) → rs ≡ record_value r ∷ next → option_map record_value found ≡ at_delta r.delta ss
    → is_some found ≡ not missing → missing ≡ true → walk_has_all rs ss ≡ total → false ≡ total
has_not rs next ss r None missing total steps finds is none all = sym (ap (λ (x : Records). walk_has_all x ss) steps ∙ grind (arith, finds)) ∙ all
has_not rs next ss r (Some s) missing total steps finds is none all = absurd cc

pub has_next : (rs next ss later : Records) (r : RecordView) (found : Option RecordView) (missing total : Bool) → rs ≡ record_value r ∷ next → option_map record_value found ≡ at_delta r.delta ss → later ≡ behind_delta r.delta ss
    → is_some found ≡ not missing → missing ≡ false → walk_has_all rs ss ≡ total → walk_has_all next later ≡ total
has_next rs next ss later r None missing total steps finds passes is none all = absurd cc
has_next rs next ss later r (Some s) missing total steps finds passes is none all =
    ap (walk_has_all next) passes ∙ sym (ap (λ (x : Records). walk_has_all x ss) steps ∙ grind (arith, finds)) ∙ all

is_false : (test : Bool) → test ≡ false → IsTrue test → ⊥
is_false test e t = cc

pub alike_not : (rs next ss : Records) (r : RecordView) (found : Option RecordView) (test : Bool) (Total : Type 0) → rs ≡ record_value r ∷ next → option_map record_value found ≡ at_delta r.delta ss
    → (IsTrue test ↔ IsAlikeOrNone (record_value r) (option_map record_value found)) → test ≡ false → (WalkAlike rs ss ↔ Total) → (IsTrue false ↔ Total)
alike_not rs next ss r found test Total steps finds same differs walk = (
  λ t. absurd (is_false false refl t),
  λ total.
      let whole : WalkAlike (record_value r ∷ next) ss = subst (λ (x : Records). WalkAlike x ss) steps (walk.1 total) in
      absurd (is_false test differs (same.1 (λ s e. whole.0 s (sym finds ∙ e)))),
)

pub alike_next : (rs next ss later : Records) (r : RecordView) (found : Option RecordView) (Total : Type 0) → rs ≡ record_value r ∷ next → option_map record_value found ≡ at_delta r.delta ss → later ≡ behind_delta r.delta ss
    → IsAlikeOrNone (record_value r) (option_map record_value found) → (WalkAlike rs ss ↔ Total) → (WalkAlike next later ↔ Total)
alike_next rs next ss later r found Total steps finds passes same walk = (
  λ rest. walk.0 (subst (λ (x : Records). WalkAlike x ss) (sym steps) (λ s e. same s (finds ∙ e), subst (WalkAlike next) passes rest)),
  λ total. let whole : WalkAlike (record_value r ∷ next) ss = subst (λ (x : Records). WalkAlike x ss) steps (walk.1 total) in subst (WalkAlike next) (sym passes) whole.1,
)

pub is_alike_some : (r s : RecordValue) (other : Option RecordValue) (test : Bool) → other ≡ Some s → (IsTrue test ↔ (r ≡ s)) → (IsTrue test ↔ IsAlikeOrNone r other)
is_alike_some r s other test is equal = (λ t q e. equal.0 t ∙ same q e, λ alike. equal.1 (alike s is))
  where
    same : (q : RecordValue) → other ≡ Some q → s ≡ q
    same q e = cc

-- ---- of each record, whether the other batch has one at its offset

flags_common_recs : (rs ss : Records) → kept_by (walk_flags rs ss) rs ≡ walk_common rs ss
flags_common_recs [] ss = refl
flags_common_recs (r ∷ rs) ss = by (is_some (at_delta r.delta ss)) (flags_common_recs rs (behind_delta r.delta ss))
  where
    later : Records
    later = walk_common rs (behind_delta r.delta ss)

    by : (t : Bool) → kept_by (walk_flags rs (behind_delta r.delta ss)) rs ≡ later → kept_by (t ∷ walk_flags rs (behind_delta r.delta ss)) (r ∷ rs) ≡ (if t then r ∷ later else later)
    by true ih = ap (λ (l : Records). r ∷ l) ih
    by false ih = ih

flags_as_many : (rs ss : Records) → length (walk_flags rs ss) ≡ length rs
flags_as_many [] ss = refl
flags_as_many (r ∷ rs) ss = ap suc (flags_as_many rs (behind_delta r.delta ss))

pub flags_length : (x : BatchValue) (ss : Records) (keep : List Bool) → keep ≡ walk_flags x.recs ss → length keep ≡ length x.recs
flags_length x ss keep is = ap length is ∙ flags_as_many x.recs ss

pub flags_common : (x y : BatchValue) (keep : List Bool) → Writable x → Writable y → keep ≡ walk_flags x.recs y.recs → thinned keep x ≡ with_common_records x y
flags_common x y keep is_x is_y is =
    let all : kept_by keep x.recs ≡ (with_common_records x y).recs = ap (λ (l : List Bool). kept_by l x.recs) is ∙ flags_common_recs x.recs y.recs ∙ common_of x y is_x is_y in
    λ i. record x { recs = all i }

mapped : {X Y : Type 0} (f : X → Y) (o : Option X) → is_some o ≡ is_some (option_map f o)
mapped f None = refl
mapped f (Some x) = refl

-- the loop, a step at a time
pub flags_next : (keep more : List Bool) (total : List Bool) (rs next ss later : Records) (r : RecordView) (found : Option RecordView) (some : Bool) → rs ≡ record_value r ∷ next → option_map record_value found ≡ at_delta r.delta ss
    → later ≡ behind_delta r.delta ss → some ≡ is_some found → more ≡ keep ++ some ∷ [] → keep ++ walk_flags rs ss ≡ total → more ++ walk_flags next later ≡ total
flags_next keep more total rs next ss later r found some steps finds passes is push all =
    let here : some ≡ is_some (at_delta r.delta ss) = is ∙ mapped record_value found ∙ ap is_some finds in
    (λ i. push i ++ walk_flags next (passes i)) ∙ append_assoc keep (some ∷ []) (walk_flags next (behind_delta r.delta ss))
    ∙ (λ i. keep ++ here i ∷ walk_flags next (behind_delta r.delta ss)) ∙ sym (ap (λ (x : Records). keep ++ walk_flags x ss) steps) ∙ all

pub flags_whole : (keep total : List Bool) (rs ss : Records) → rs ≡ [] → keep ++ walk_flags rs ss ≡ total → keep ≡ total
flags_whole keep total rs ss none all = sym (append-nil keep) ∙ sym (ap (λ (x : Records). keep ++ walk_flags x ss) none) ∙ all

-- ---- batches of equal bytes, and heads

pub opened_writable : (x : BatchValue) (bytes : List ℕ) → IsEncoding bytes → batch_of bytes ≡ x → Writable x
opened_writable x bytes is opens = subst Writable opens is.0

pub opened_equal : (x y : BatchValue) (left right : List ℕ) → batch_of left ≡ x → batch_of right ≡ y → left ≡ right → x ≡ y
opened_equal x y left right opens_left opens_right same = sym opens_left ∙ ap batch_of same ∙ opens_right

pub all_of_same : (x y : BatchValue) → x ≡ y → with_common_records x y ≡ x
all_of_same x y same = ap (with_common_records x) (sym same) ∙ common_self x

pub heads_differ : (x y : BatchValue) → (x.head ≡ y.head → ⊥) → AreAlike x y → ⊥
heads_differ x y differ alike = differ alike.0

abbrev heads_test : BatchHead → BatchHead → Bool
heads_test g h = int_eq g.base h.base && (int_eq g.leader_epoch h.leader_epoch && (int_eq g.attrs h.attrs && (int_eq g.last_delta h.last_delta && (int_eq g.base_time h.base_time
    && (int_eq g.max_time h.max_time && (int_eq g.producer h.producer && (int_eq g.producer_epoch h.producer_epoch && int_eq g.base_seq h.base_seq)))))))

pub heads_equal : (g h : BatchHead) (test : Bool) → test ≡ heads_test g h → (IsTrue test ↔ (g ≡ h))
heads_equal g h test is = (λ t. same (sym is ∙ t), λ e. is ∙ sym (ap (heads_test g) e) ∙ self g)
  where
    same : heads_test g h ≡ true → g ≡ h
    same t =
        let base : g.base ≡ h.base = grind (arith, ints, t) in
        let leader_epoch : g.leader_epoch ≡ h.leader_epoch = grind (arith, ints, t) in
        let attrs : g.attrs ≡ h.attrs = grind (arith, ints, t) in
        let last_delta : g.last_delta ≡ h.last_delta = grind (arith, ints, t) in
        let base_time : g.base_time ≡ h.base_time = grind (arith, ints, t) in
        let max_time : g.max_time ≡ h.max_time = grind (arith, ints, t) in
        let producer : g.producer ≡ h.producer = grind (arith, ints, t) in
        let producer_epoch : g.producer_epoch ≡ h.producer_epoch = grind (arith, ints, t) in
        let base_seq : g.base_seq ≡ h.base_seq = grind (arith, ints, t) in
        λ i. record { base = base i; leader_epoch = leader_epoch i; attrs = attrs i; last_delta = last_delta i; base_time = base_time i; max_time = max_time i; producer = producer i; producer_epoch = producer_epoch i; base_seq = base_seq i }

    self : (k : BatchHead) → heads_test k k ≡ true
    self k = grind (arith, ints)

pub heads_equal_of : (g h p q : BatchHead) (test : Bool) → test ≡ heads_test g h → g ≡ p → h ≡ q → (IsTrue test ↔ (p ≡ q))
heads_equal_of g h p q test is left right = (λ t. sym left ∙ (heads_equal g h test is).0 t ∙ right, λ e. (heads_equal g h test is).1 (left ∙ e ∙ sym right))
