-- Records that come into a map, one by one.
use Rattle.std.proofs.Common.{◌≡◌, ℕ, ℤ, ◌+ℤ◌, List, [], ◌∷◌, Option, Some, sym, ap, ◌∙◌}
use Rattle.std.specs.Prelude.{if◌then◌else◌}
use Rattle.std.specs.List.{fold}
use Rattle.batch_codec.specs.Values.{RecordValue}
use Rattle.content.specs.Records.{equal_keys}
use Rattle.key_index.specs.Puts.{records_at}
use Rattle.newest_keys.specs.Newest.{Newest, raised, with_records}

-- whoever takes the records that are left has then taken all
abbrev pub Leads : ℤ → Newest → Newest → List RecordValue → List RecordValue → Type 0
Leads base start now left all = (key : List ℕ) → with_records now (records_at base left) key ≡ with_records start (records_at base all) key

pub leads_first : (base : ℤ) (start : Newest) (left all : List RecordValue) → left ≡ all → Leads base start start left all
leads_first base start left all same key = ap (λ (rs : List RecordValue). with_records start (records_at base rs) key) same

pub leads_more : (base passed : ℤ) (start now next : Newest) (left rest all : List RecordValue) (r : RecordValue) → passed ≡ base → left ≡ r ∷ rest
    → ((key : List ℕ) → next key ≡ with_records now ((passed +ℤ r.delta, r) ∷ []) key) → Leads base start now left all → Leads base start next rest all
leads_more base passed start now next left rest all r same split takes leads key =
    ap (λ (found : Option ℤ). fold (λ f x. if equal_keys x.1.key (Some key) then Some (raised f x.0) else f) found (records_at base rest))
    (takes key ∙ ap (λ (o : ℤ). with_records now ((o +ℤ r.delta, r) ∷ []) key) same)
    ∙ ap (λ (rs : List RecordValue). with_records now (records_at base rs) key) (sym split) ∙ leads key

pub leads_last : (base : ℤ) (start now : Newest) (left all : List RecordValue) → left ≡ [] → Leads base start now left all → (key : List ℕ) → now key ≡ with_records start (records_at base all) key
leads_last base start now left all none leads key = ap (λ (rs : List RecordValue). with_records now (records_at base rs) key) (sym none) ∙ leads key
