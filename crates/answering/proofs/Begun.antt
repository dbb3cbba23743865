-- Outputs that were begun: what was there stands in front.
use Rattle.std.proofs.Common.{◌≡◌, ℕ, ◌+◌, ◌≤◌, arith, Result, Ok, Err, List, [], ◌++◌, length, sym, ap, ◌∙◌, append_assoc, append-nil}
use Rattle.std.specs.Prelude.{ℤ, OnOk, OnErr, if◌then◌else◌}
use Rattle.std.specs.Result.{is_ok}
use Rattle.std.proofs.lemmas.List.{length-append}
use Rattle.responses.specs.Responses.{response_head}
use Rattle.answering.specs.Writing.{Begins}

pub begins_same : (a b : List ℕ) → b ≡ a → Begins a b
begins_same a b e = ([], e ∙ sym (append-nil a))

pub begins_more : (a b c d : List ℕ) → Begins a b → c ≡ b ++ d → Begins a c
begins_more a b c d h e = (h.0 ++ d, e ∙ ap (λ (x : List ℕ). x ++ d) h.1 ∙ append_assoc a h.0 d)

pub begins_kept : (a b c : List ℕ) → Begins a b → c ≡ b → Begins a c
begins_kept a b c h e = (h.0, e ∙ h.1)

pub begins_both : (a b c : List ℕ) → Begins a b → Begins b c → Begins a c
begins_both a b c h k = begins_more a b c k.0 h k.1

pub on_err_of : {T E P : Type 0} (r : Result T E) → P → OnErr r P
on_err_of (Ok x) p = tt
on_err_of (Err e) p = p

-- a response that was begun has room for its size
pub size_is_there : (old new fields : List ℕ) (correlation : ℤ) (n m : ℕ) → new ≡ old ++ response_head correlation ++ fields → n ≡ length old → m ≡ length new → n + 4 ≤ m
unfolding response_head
size_is_there old new fields correlation n m e before after =
    let front = old ++ response_head correlation in
    let whole : length new ≡ length (front ++ fields) = ap length e in
    omega (arith, whole, length-append front fields, length-append old (response_head correlation), before, after)

-- three parts that were appended, where the last one went well
pub three_parts : {E : Type 0} (r : Result (Unit {0}) E) (old first second third a b c : List ℕ) → first ≡ old ++ a → second ≡ first ++ b
    → third ≡ (if is_ok r then second ++ c else second) → OnOk r (third ≡ old ++ (a ++ b ++ c))
three_parts (Ok x) old first second third a b c one two three =
    three ∙ (λ i. two i ++ c) ∙ (λ i. (one i ++ b) ++ c) ∙ ap (λ (x : List ℕ). x ++ c) (append_assoc old a b) ∙ append_assoc old (a ++ b) c
three_parts (Err e) old first second third a b c one two three = tt

-- what follows of an answer

pub on_ok : {T E P Q : Type 0} (r : Result T E) → (P → Q) → OnOk r P → OnOk r Q
on_ok (Ok x) f p = f p
on_ok (Err e) f p = p

pub on_err : {T E P Q : Type 0} (r : Result T E) → (P → Q) → OnErr r P → OnErr r Q
on_err (Ok x) f p = tt
on_err (Err e) f p = f p
