-- What a walk back over batches finds of its keys is what the table has of them.
use Rattle.std.proofs.Common.{◌≡◌, ◌<◌, ◌≤◌, ℕ, zero, suc, ◌+◌, ◌-◌, append_assoc, length, Bool, true, false, cond, List, [], ◌∷◌, ◌++◌, take, drop, Option, Some, None, refl, sym, ap, subst, ◌∙◌, true≢false, inl, arith}
use Rattle.std.specs.Prelude.{ℤ, ◌&&◌, nat_eq, bytes_eq, IfSome, Result, Ok, Err}
use Rattle.std.specs.Borrow.{Bor}
use Rattle.std.specs.List.{fold, flat_map}
use Rattle.std.specs.Option.{option_map}
use Rattle.std.specs.FinMap as finite
use Rattle.std.specs.Cmp.Lexicographic.{bytes_decides, nat_list_eq_equiv}
use Rattle.std.specs.Map.{lookup, KeepsOthers}
use Rattle.std.proofs.lemmas.List.{take-append-drop, append-nil}
use Rattle.std.proofs.lemmas.List.Concat.{flat_map-append}
use Rattle.std.proofs.lemmas.List.Sums.{fold-append}
use Rattle.std.proofs.lemmas.Option.{same_Some}
use Rattle.batch_codec.specs.Values.{RecordValue, BatchValue}
use Rattle.content.specs.Records.{log_records, equal_keys}
use Rattle.content.specs.Table.{Table, with_record, with_records, table_of}
use Rattle.content.specs.Content.{shown_table}
use Rattle.partition_log.specs.Newest.{value_of, newest, newest_of, over, shown_by}
use Rattle.partition_log.proofs.Latest.{table_of-push}
use Rattle.partition_log.proofs.Newest.{get_records, nothing_found}
use Rattle.group_offsets.specs.declared.values.Committed.{Committed}
use Rattle.group_offsets.specs.declared.error.GroupError.TheVariants.{NameTooLong}
use Rattle.group_offsets.specs.Keys.{GroupKeyValue, IsName, group_key_bytes}
use Rattle.group_offsets.specs.Refusals.{AreNames}
use Rattle.group_offsets.specs.Lookups.{is_name, shown_value, lookup_in}
use Rattle.answering.specs.declared.codes.ErrorCode.{ErrorCode}
use Rattle.broker_state.specs.State.{State}
use Rattle.group_requests.specs.GroupPartition.{group_content}
use Rattle.group_requests.specs.OffsetFetch.{offset_fetch_fault}
use Rattle.group_requests.specs.OffsetFetch.Entries.{ShowsAt, ReadsAs, LooksUpAt}
use Rattle.group_requests.specs.declared.offset_fetch.walk.Latest.{Latest}
use Rattle.group_requests.specs.declared.offset_fetch.walk.CommitWalk.{CommitWalk}
use Rattle.group_requests.specs.OffsetFetch.Walks.{Slot, slot_value, filled_with, filled, slot_at, stretch_records, Tells, Knows}

-- ---- bytes behind a front

exact : (x y : List ℕ) → bytes_eq x y ≡ true → x ≡ y
exact x y same = (bytes_decides x y).0 same

turned : (x y : List ℕ) → bytes_eq x y ≡ bytes_eq y x
turned x y = nat_list_eq_equiv.symm x y

same_behind : (front x y : List ℕ) → bytes_eq (front ++ x) (front ++ y) ≡ bytes_eq x y
same_behind [] x y = refl
same_behind (a ∷ front) x y = grind (arith, same_behind front x y)

take_front : (front x : List ℕ) → take (length front) (front ++ x) ≡ front
take_front [] x = refl
take_front (a ∷ front) x = λ i. a ∷ take_front front x i

pub behind : (front key rest : List ℕ) → bytes_eq (take (length front) key) front ≡ true → rest ≡ drop (length front) key → key ≡ front ++ rest
behind front key rest same is = sym (take-append-drop (length front) key) ∙ (λ i. exact (take (length front) key) front same i ++ sym is i)

not_behind : (front key x : List ℕ) → bytes_eq (take (length front) key) front ≡ false → bytes_eq key (front ++ x) ≡ false
not_behind front key x other = by (bytes_eq key (front ++ x)) refl
  where
    by : (b : Bool) → bytes_eq key (front ++ x) ≡ b → b ≡ false
    by false e = refl
    by true e = absurd (true≢false (sym ((bytes_decides (take (length front) key) front).1 (ap (take (length front)) (exact key (front ++ x) e) ∙ take_front front x)) ∙ other))

-- ---- one record

abbrev pub Sees : ℕ → List ℕ → RecordValue → Option Slot → Option Slot
Sees i key r o = option_map (λ slot. filled i key slot r) o

-- a record of another key
module _ (i : ℕ) (key : List ℕ) (r : RecordValue) (other : equal_keys r.key (Some key) ≡ false) where
  stays : (o : Option Slot) → o ≡ Sees i key r o
  stays None = refl
  stays (Some slot) = ap (λ (b : Bool). Some (cond b (filled_with i r.value slot) slot)) (sym other)

pub no_key : (i : ℕ) (key : List ℕ) (r : RecordValue) (o : Option Slot) → r.key ≡ None → o ≡ Sees i key r o
no_key i key r o none = stays i key r (ap (λ (k : Option (List ℕ)). equal_keys k (Some key)) none) o

pub other_front : (i : ℕ) (front rest key : List ℕ) (r : RecordValue) (o : Option Slot) → r.key ≡ Some key → bytes_eq (take (length front) key) front ≡ false → o ≡ Sees i (front ++ rest) r o
other_front i front rest key r o is other = stays i (front ++ rest) r (ap (λ (k : Option (List ℕ)). equal_keys k (Some (front ++ rest))) is ∙ not_behind front key rest other) o

own_front : (front rest key q : List ℕ) (r : RecordValue) → r.key ≡ Some key → key ≡ front ++ rest → equal_keys r.key (Some (front ++ q)) ≡ bytes_eq rest q
own_front front rest key q r is parts = ap (λ (k : Option (List ℕ)). equal_keys k (Some (front ++ q))) is ∙ ap (λ (k : List ℕ). bytes_eq k (front ++ q)) parts ∙ same_behind front rest q

-- a key that isn't looked for
pub not_wanted : (i : ℕ) (front rest key q : List ℕ) (r : RecordValue) (at : List ℕ → Option Slot) → r.key ≡ Some key → key ≡ front ++ rest → at rest ≡ None → at q ≡ Sees i (front ++ q) r (at q)
not_wanted i front rest key q r at is parts none = by (bytes_eq rest q) refl
  where
    by : (b : Bool) → bytes_eq rest q ≡ b → at q ≡ Sees i (front ++ q) r (at q)
    by false e = stays i (front ++ q) r (own_front front rest key q r is parts ∙ e) (at q)
    by true e =
        let gone : at q ≡ None = ap at (sym (exact rest q e)) ∙ none in
        gone ∙ ap (Sees i (front ++ q) r) (sym gone)

-- one that is
pub wanted : (i : ℕ) (front rest key q : List ℕ) (r : RecordValue) (old new : List ℕ → Option Slot) (was : Slot) → r.key ≡ Some key → key ≡ front ++ rest
    → old rest ≡ Some was → new rest ≡ Some (filled_with i r.value was) → ((x : List ℕ) → bytes_eq rest x ≡ false → new x ≡ old x)
    → new q ≡ Sees i (front ++ q) r (old q)
wanted i front rest key q r old new was is parts before after others = by (bytes_eq rest q) refl
  where
    by : (b : Bool) → bytes_eq rest q ≡ b → new q ≡ Sees i (front ++ q) r (old q)
    by false e = others q e ∙ stays i (front ++ q) r (own_front front rest key q r is parts ∙ e) (old q)
    by true e =
        let own : equal_keys r.key (Some (front ++ q)) ≡ true = own_front front rest key q r is parts ∙ e in
        let same = exact rest q e in
        ap new (sym same) ∙ after ∙ ap (λ (b : Bool). Some (cond b (filled_with i r.value was) was)) (sym own)
        ∙ ap (Sees i (front ++ q) r) (sym before ∙ ap old same)

-- ---- the records of a batch

abbrev pub SeesAll : ℕ → List ℕ → List RecordValue → Option Slot → Option Slot
SeesAll i key rs o = option_map (λ slot. fold (filled i key) slot rs) o

pub sees_none : (i : ℕ) (key : List ℕ) (o : Option Slot) → o ≡ SeesAll i key [] o
sees_none i key None = refl
sees_none i key (Some slot) = refl

pub sees_more : (i : ℕ) (key : List ℕ) (r : RecordValue) (rs : List RecordValue) (o : Option Slot) → SeesAll i key rs (Sees i key r o) ≡ SeesAll i key (r ∷ rs) o
sees_more i key r rs None = refl
sees_more i key r rs (Some slot) = refl

-- ---- what a batch does to a slot

closed : (i : ℕ) (key : List ℕ) (f : ℕ × Option (List ℕ)) (rs : List RecordValue) → nat_eq f.0 i ≡ false → fold (filled i key) (Some f) rs ≡ Some f
closed i key f [] shut = refl
closed i key f (r ∷ rs) shut = ap (λ (slot : Slot). fold (filled i key) slot rs) (by (equal_keys r.key (Some key))) ∙ closed i key f rs shut
  where
    by : (b : Bool) → cond b (filled_with i r.value (Some f)) (Some f) ≡ Some f
    by true = ap (λ (b : Bool). cond b (Some (i, r.value)) (Some f)) shut
    by false = refl

abbrev at_batch : ℕ → Option (Option (List ℕ)) → Slot
at_batch i found = option_map (λ value. (i, value)) found

opened : (i : ℕ) (key : List ℕ) (found : Option (Option (List ℕ))) (rs : List RecordValue) → fold (filled i key) (at_batch i found) rs ≡ at_batch i (fold (newest key) found rs)
opened i key found [] = refl
opened i key found (r ∷ rs) = ap (λ (slot : Slot). fold (filled i key) slot rs) (by found (equal_keys r.key (Some key))) ∙ opened i key (newest key found r) rs
  where
    same : nat_eq i i ≡ true
    same = grind arith

    by : (o : Option (Option (List ℕ))) (b : Bool) → cond b (filled_with i r.value (at_batch i o)) (at_batch i o) ≡ at_batch i (cond b (Some r.value) o)
    by None true = refl
    by (Some value) true = ap (λ (b : Bool). cond b (Some (i, r.value)) (Some (i, value))) same
    by o false = refl

-- ---- the walk

-- what a slot says, once all batches from an index on were walked, which starts a stretch
abbrev pub Says : List BatchValue → ℕ → List ℕ → Slot → Type 0
Says bs i key None = shown_by key (take i bs) ≡ shown_by key bs
Says bs i key (Some f) = (i ≤ f.0) × (f.1 ≡ shown_by key bs)

take_whole : (bs : List BatchValue) → take (length bs) bs ≡ bs
take_whole [] = refl
take_whole (b ∷ bs) = λ i. b ∷ take_whole bs i

pub says_first : (bs : List BatchValue) (i : ℕ) (key : List ℕ) (slot : Slot) → i ≡ length bs → slot ≡ None → Says bs i key slot
says_first bs i key slot all none = subst (Says bs i key) (sym none) (ap (λ (n : ℕ). shown_by key (take n bs)) all ∙ ap (shown_by key) (take_whole bs))

-- what a key has, by the batches before a stretch and by the stretch
table_more : (front middle : List BatchValue) → table_of (log_records (front ++ middle)) ≡ with_records (table_of (log_records front)) (flat_map (λ (b : BatchValue). b.recs) middle)
table_more front [] = ap (λ (bs : List BatchValue). table_of (log_records bs)) (append-nil front)
table_more front (b ∷ middle) =
    ap (λ (bs : List BatchValue). table_of (log_records bs)) (sym (append_assoc front (b ∷ []) middle)) ∙ table_more (front ++ b ∷ []) middle
    ∙ ap (λ (t : Table). with_records t (flat_map (λ (x : BatchValue). x.recs) middle)) (table_of-push front b)
    ∙ sym (fold-append with_record (table_of (log_records front)) b.recs (flat_map (λ (x : BatchValue). x.recs) middle))

take_parts : (start more : ℕ) (bs : List BatchValue) → take (start + more) bs ≡ take start bs ++ take more (drop start bs)
take_parts zero more bs = let none : 0 + more ≡ more = omega arith in ap (λ (n : ℕ). take n bs) none
take_parts (suc start) zero [] = let next : suc start + zero ≡ suc (start + zero) = omega arith in ap (λ (n : ℕ). take {A = BatchValue} n []) next
take_parts (suc start) (suc more) [] = let next : suc start + suc more ≡ suc (start + suc more) = omega arith in ap (λ (n : ℕ). take {A = BatchValue} n []) next
take_parts (suc start) more (b ∷ bs) =
    let next : suc start + more ≡ suc (start + more) = omega arith in
    ap (λ (n : ℕ). take n (b ∷ bs)) next ∙ ap (λ (xs : List BatchValue). b ∷ xs) (take_parts start more bs)

shown_stretch : (bs : List BatchValue) (start end : ℕ) (key : List ℕ) → start ≤ end → shown_by key (take end bs) ≡ over (newest_of key (stretch_records start end bs)) (shown_by key (take start bs))
shown_stretch bs start end key le =
    let middle : List BatchValue = take (end - start) (drop start bs) in
    let sum : end ≡ start + (end - start) = omega (arith, le) in
    ap (λ (n : ℕ). shown_by key (take n bs)) sum ∙ ap (shown_by key) (take_parts start (end - start) bs)
    ∙ ap (λ (t : Table). finite.get t key) (table_more (take start bs) middle)
    ∙ get_records (table_of (log_records (take start bs))) (shown_by key (take start bs)) key None (flat_map (λ (b : BatchValue). b.recs) middle) refl

apart : (start end n : ℕ) → start < end → end ≤ n → (nat_eq n start ≡ false) × (start ≤ n)
apart start end n lt le = (grind arith, omega arith)

-- a stretch more, from the newest end
pub says_more : (bs : List BatchValue) (start end : ℕ) (key : List ℕ) (was slot : Slot) → start < end
    → slot ≡ fold (filled start key) was (stretch_records start end bs) → Says bs end key was → Says bs start key slot
says_more bs start end key (Some f) slot lt same so_far =
    let shut = apart start end f.0 lt so_far.0 in
    subst (Says bs start key) (sym (same ∙ closed start key f (stretch_records start end bs) shut.0)) (shut.1, so_far.1)
says_more bs start end key None slot lt same so_far =
    subst (Says bs start key) (sym (same ∙ opened start key None (stretch_records start end bs))) (by (newest_of key (stretch_records start end bs)) (shown_stretch bs start end key (omega arith)))
  where
    by : (found : Option (Option (List ℕ))) → shown_by key (take end bs) ≡ over found (shown_by key (take start bs)) → Says bs start key (at_batch start found)
    by None e = sym e ∙ so_far
    by (Some value) e = (omega arith, sym e ∙ so_far)

pub says_last : (bs : List BatchValue) (end : ℕ) (key : List ℕ) (slot : Slot) (whole : Bool) → (whole ≡ true → end ≡ 0) → Says bs end key slot → Tells whole (table_of (log_records bs)) key slot
says_last bs end key (Some f) whole at says = says.1
says_last bs end key None whole at says = λ all. sym (nothing_found bs end key (shown_by key bs) (at all) says)

-- ---- steps of the code

pub keeps_others : {K X : Type 0} (items : K → List ℕ) (eq : K → K → Bool) → ((x y : K) → eq x y ≡ bytes_eq (items x) (items y)) → (rest x : List ℕ) (old new : List (K × X)) → bytes_eq rest x ≡ false
    → KeepsOthers eq (λ k. bytes_eq rest (items k)) old new → lookup (λ k. bytes_eq x (items k)) new ≡ lookup (λ k. bytes_eq x (items k)) old
unfolding KeepsOthers
keeps_others items eq same rest x old new other keeps =
    keeps (λ k. bytes_eq x (items k))
    (λ a b h. ap (λ (l : List ℕ). bytes_eq l (items b)) (exact x (items a) h) ∙ sym (same a b))
    (λ k h. ap (λ (l : List ℕ). bytes_eq x l) (sym (exact rest (items k) h)) ∙ turned x rest ∙ other)

pub batch_more : (i : ℕ) (front front' rest : List ℕ) (r : RecordValue) (left next all : List RecordValue) (new now start : Option Slot) → front' ≡ front → left ≡ r ∷ next
    → new ≡ SeesAll i (front' ++ rest) (r ∷ []) now → SeesAll i (front ++ rest) left now ≡ SeesAll i (front ++ rest) all start → SeesAll i (front ++ rest) next new ≡ SeesAll i (front ++ rest) all start
batch_more i front front' rest r left next all new now start same split step so_far =
    ap (SeesAll i (front ++ rest) next) (step ∙ ap (λ (f : List ℕ). SeesAll i (f ++ rest) (r ∷ []) now) same)
    ∙ sees_more i (front ++ rest) r next now
    ∙ ap (λ (rs : List RecordValue). SeesAll i (front ++ rest) rs now) (sym split)
    ∙ so_far

pub batch_all : (i : ℕ) (key : List ℕ) (left all : List RecordValue) (now start : Option Slot) → left ≡ [] → SeesAll i key left now ≡ SeesAll i key all start → now ≡ SeesAll i key all start
batch_all i key left all now start none so_far = sees_none i key now ∙ ap (λ (rs : List RecordValue). SeesAll i key rs now) (sym none) ∙ so_far

-- a batch more of a stretch
pub stretch_more : (start : ℕ) (key : List ℕ) (front more : List BatchValue) (b : BatchValue) (new now old : Option Slot) → more ≡ front ++ b ∷ []
    → new ≡ SeesAll start key b.recs now → now ≡ SeesAll start key (flat_map (λ (x : BatchValue). x.recs) front) old → new ≡ SeesAll start key (flat_map (λ (x : BatchValue). x.recs) more) old
stretch_more start key front more b new now old next step so_far =
    let records : flat_map (λ (x : BatchValue). x.recs) more ≡ flat_map (λ (x : BatchValue). x.recs) front ++ b.recs =
    ap (flat_map (λ (x : BatchValue). x.recs)) next ∙ flat_map-append (λ (x : BatchValue). x.recs) front (b ∷ []) ∙ ap (λ (rs : List RecordValue). flat_map (λ (x : BatchValue). x.recs) front ++ rs) (append-nil b.recs) in
    step ∙ ap (SeesAll start key b.recs) so_far ∙ by old ∙ sym (ap (λ (rs : List RecordValue). SeesAll start key rs old) records)
  where
    by : (o : Option Slot) → SeesAll start key b.recs (SeesAll start key (flat_map (λ (x : BatchValue). x.recs) front) o) ≡ SeesAll start key (flat_map (λ (x : BatchValue). x.recs) front ++ b.recs) o
    by None = refl
    by (Some slot) = ap (λ (s : Slot). Some s) (sym (fold-append (filled start key) slot (flat_map (λ (x : BatchValue). x.recs) front) b.recs))

pub walk_more : (bs : List BatchValue) (start end : ℕ) (front front' rest : List ℕ) (old new : Option Slot) (slot : Slot) → start < end
    → front' ≡ front → new ≡ SeesAll start (front ++ rest) (stretch_records start end bs) old → ((was : Slot) → old ≡ Some was → Says bs end (front ++ rest) was) → new ≡ Some slot → Says bs start (front' ++ rest) slot
walk_more bs start end front front' rest old new slot lt same seen so_far at =
    subst (λ (f : List ℕ). Says bs start (f ++ rest) slot) (sym same) (by old so_far (sym seen ∙ at))
  where
    by : (o : Option Slot) → ((was : Slot) → o ≡ Some was → Says bs end (front ++ rest) was) → SeesAll start (front ++ rest) (stretch_records start end bs) o ≡ Some slot → Says bs start (front ++ rest) slot
    by None says e = absurd cc
    by (Some was) says e = says_more bs start end (front ++ rest) was slot lt (sym (same_Some _ _ e)) (says was refl)

-- a key that is looked for, as the map's entries tell
pub noted : {K : Type 0} (items : K → List ℕ) (eq : K → K → Bool) → ((x y : K) → eq x y ≡ bytes_eq (items x) (items y)) → (i : ℕ) (front front' rest key q : List ℕ) (r : RecordValue) (old new : List (K × Option Latest)) (was now : Option Latest)
    → r.key ≡ Some key → front' ≡ front → bytes_eq (take (length front') key) front' ≡ true → rest ≡ drop (length front') key
    → lookup (λ k. bytes_eq rest (items k)) old ≡ Some was → slot_value now ≡ filled_with i r.value (slot_value was) → lookup (λ k. bytes_eq rest (items k)) new ≡ Some now → KeepsOthers eq (λ k. bytes_eq rest (items k)) old new
    → option_map slot_value (lookup (λ k. bytes_eq q (items k)) new) ≡ Sees i (front ++ q) r (option_map slot_value (lookup (λ k. bytes_eq q (items k)) old))
noted items eq same i front front' rest key q r old new was now is fronts begins ends before filled after keeps =
    let parts = behind front key rest (subst (λ (f : List ℕ). bytes_eq (take (length f) key) f ≡ true) fronts begins) (ends ∙ ap (λ (f : List ℕ). drop (length f) key) fronts) in
    wanted i front rest key q r (λ x. option_map slot_value (lookup (λ k. bytes_eq x (items k)) old)) (λ x. option_map slot_value (lookup (λ k. bytes_eq x (items k)) new)) (slot_value was) is parts
    (ap (option_map slot_value) before) (ap (option_map slot_value) after ∙ ap (λ (s : Slot). Some s) filled)
    (λ x other. ap (option_map slot_value) (keeps_others items eq same rest x old new other keeps))

-- a key more to look for
pub none_more : {K : Type 0} (items : K → List ℕ) (eq : K → K → Bool) → ((x y : K) → eq x y ≡ bytes_eq (items x) (items y)) → (key q : List ℕ) (old new : List (K × Option Latest)) (slot : Slot)
    → lookup (λ k. bytes_eq key (items k)) new ≡ Some None → KeepsOthers eq (λ k. bytes_eq key (items k)) old new
    → ((s : Slot) → option_map slot_value (lookup (λ k. bytes_eq q (items k)) old) ≡ Some s → s ≡ None) → option_map slot_value (lookup (λ k. bytes_eq q (items k)) new) ≡ Some slot → slot ≡ None
none_more items eq same key q old new slot put keeps none at = by (bytes_eq key q) refl
  where
    by : (b : Bool) → bytes_eq key q ≡ b → slot ≡ None
    by false e = none slot (sym (ap (option_map slot_value) (keeps_others items eq same key q old new e keeps)) ∙ at)
    by true e =
        let here : option_map slot_value (lookup (λ k. bytes_eq q (items k)) new) ≡ Some None =
        ap (λ (x : List ℕ). option_map slot_value (lookup (λ k. bytes_eq x (items k)) new)) (sym (exact key q e)) ∙ ap (option_map slot_value) put in
        same_Some _ _ (sym at ∙ here)

-- what is told of a key
pub told : {A : Type 0} (t : Table) (w : CommitWalk A) (front rest key : List ℕ) (o : Option Latest) → Knows t w → front ≡ w.front.items → bytes_eq (take (length front) key) front ≡ true → rest ≡ drop (length front) key
    → slot_at w rest ≡ Some (slot_value o) → Tells w.is_whole t key (slot_value o)
told t w front rest key o knows fronts begins ends at =
    subst (λ (k : List ℕ). Tells w.is_whole t k (slot_value o)) (ap (λ (f : List ℕ). f ++ rest) (sym fronts) ∙ sym (behind front key rest begins ends)) (knows.tells rest (slot_value o) at)

-- ---- an entry

if_some : {X : Type 0} (o : Option X) (P Q : X → Type 0) → ((x : X) → P x → Q x) → IfSome o P → IfSome o Q
if_some None P Q f p = tt
if_some (Some x) P Q f p = f x p

pub shown_of : (s : State) (group name : List ℕ) (p : ℤ) (key : List ℕ) (o : Option (Option (Bor (List ℕ)))) → AreNames group name → key ≡ group_key_bytes (record { group = group; topic = name; partition = p })
    → IfSome o (λ value. value_of value ≡ finite.get (shown_table (group_content s)) key) → IfSome o (λ value. ShowsAt s group name p (value_of value))
shown_of s group name p key o names is found = if_some o _ _ (λ value e. (names, e ∙ ap (finite.get (shown_table (group_content s))) is)) found

is_name_of : (text : List ℕ) → IsName text → is_name text ≡ true
is_name_of text fits = grind arith

pub lookup_shown : (t : Table) (k : GroupKeyValue) → AreNames k.group k.topic → lookup_in t k ≡ shown_value (finite.get t (group_key_bytes k))
unfolding lookup_in
lookup_shown t k names = λ i. cond (is_name_of k.group names.0 i && is_name_of k.topic names.1 i) (shown_value (finite.get t (group_key_bytes k))) (Err NameTooLong)

pub found_at : (s : State) (group name : List ℕ) (p : ℤ) (value : Option (List ℕ)) (result : Result (Option Committed) ErrorCode) → ShowsAt s group name p value → ReadsAs value result → LooksUpAt s group name p result
found_at s group name p value (Ok found) shows reads = lookup_shown (shown_table (group_content s)) (record { group = group; topic = name; partition = p }) shows.0 ∙ ap shown_value (sym shows.1) ∙ reads
found_at s group name p value (Err code) shows reads =
    inl (ap offset_fetch_fault (lookup_shown (shown_table (group_content s)) (record { group = group; topic = name; partition = p }) shows.0 ∙ ap shown_value (sym shows.1)) ∙ reads)
