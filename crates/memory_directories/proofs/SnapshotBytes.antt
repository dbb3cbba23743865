-- The bytes of a snapshot, by a loop over the changes of names from the last one on.
use Rattle.std.proofs.Common.{◌≡◌, ℕ, ◌+◌, ◌<◌, Bool, true, false, if◌then◌else◌, List, [], ◌∷◌, ◌++◌, length, take, get_or, Option, None, Some, refl, sym, ap, ◌∙◌, arith}
use Rattle.std.specs.Prelude.{IfSome}
use Rattle.std.proofs.lemmas.List.{take_all, take_more}
use Rattle.std.proofs.lemmas.List.Sums.{fold-append}
use Rattle.std.proofs.lemmas.Option.{none-some, same_Some}
use Rattle.data_directory.specs.Directories.{DirectoryState, HasItsBytes}
use Rattle.data_directory.specs.declared.names.Name.{Name}
use Rattle.data_directory.specs.declared.names.Name.TheVariants.{Snapshot, Journal, Making}
use Rattle.memory_directories.specs.KnownNames.{has_name, bytes_after, bytes_by}

module _ (number : ℕ) (named cut : Option Name) (bytes : List ℕ) (before : Option (List ℕ)) (known : List ℕ) (is : bytes_after number named cut bytes before ≡ Some known) where
  -- a change that gives the name, one that shortens the file, and another one
  last_named : has_name (Snapshot number) named ≡ true → bytes ≡ known
  last_named had = same_Some bytes known (sym (ap (λ (b : Bool). if b then Some bytes else if has_name (Snapshot number) cut then Some [] else before) had) ∙ is)

  last_cut : has_name (Snapshot number) named ≡ false → has_name (Snapshot number) cut ≡ true → [] ≡ known
  last_cut had was_cut = same_Some [] known (sym (ap (λ (b : Bool). if b then Some [] else before) was_cut)
      ∙ (sym (ap (λ (b : Bool). if b then Some bytes else if has_name (Snapshot number) cut then Some [] else before) had) ∙ is))

  untouched : has_name (Snapshot number) named ≡ false → has_name (Snapshot number) cut ≡ false → before ≡ Some known
  untouched had was_cut = sym (ap (λ (b : Bool). if b then Some [] else before) was_cut)
      ∙ (sym (ap (λ (b : Bool). if b then Some bytes else if has_name (Snapshot number) cut then Some [] else before) had) ∙ is)

module _ {C : Type 0} (named cut : C → Option Name) (bytes : C → List ℕ) (number : ℕ) where
  step : (xs : List C) (i : ℕ) (c : C) → i < length xs → c ≡ get_or xs i c
      → bytes_by (take (i + 1) xs) named cut bytes number ≡ bytes_after number (named c) (cut c) (bytes c) (bytes_by (take i xs) named cut bytes number)
  step xs i c lt is =
      ap (λ (l : List C). bytes_by l named cut bytes number) (take_more xs i c lt ∙ ap (λ (x : C). take i xs ++ x ∷ []) (sym is))
      ∙ fold-append (λ (before : Option (List ℕ)) (change : C). bytes_after number (named change) (cut change) (bytes change) before) None (take i xs) (c ∷ [])

  -- the changes that are left, from the first on, give what all give
  abbrev pub AreLeft : (xs : List C) (at : ℕ) → Type 0
  AreLeft xs at = IfSome (bytes_by xs named cut bytes number) (λ known. bytes_by (take at xs) named cut bytes number ≡ Some known)

  pub all_left : (xs : List C) (at : ℕ) → at ≡ length xs → AreLeft xs at
  all_left xs at is = by (bytes_by xs named cut bytes number) refl
    where
      by : (o : Option (List ℕ)) → bytes_by xs named cut bytes number ≡ o → IfSome o (λ known. bytes_by (take at xs) named cut bytes number ≡ Some known)
      by None gives = tt
      by (Some known) gives = ap (λ (l : List C). bytes_by l named cut bytes number) (take_all at xs (omega (arith, is))) ∙ gives

  -- none is left, and none had the name
  pub none_left : (xs : List C) (at : ℕ) → at ≡ 0 → AreLeft xs at → IfSome (bytes_by xs named cut bytes number) (λ known. [] ≡ known)
  none_left xs at is left = by (bytes_by xs named cut bytes number) left
    where
      by : (o : Option (List ℕ)) → IfSome o (λ known. bytes_by (take at xs) named cut bytes number ≡ Some known) → IfSome o (λ known. [] ≡ known)
      by None gives = tt
      by (Some known) gives = absurd (none-some known (ap (λ (n : ℕ). bytes_by (take n xs) named cut bytes number) (sym is) ∙ gives))

  module _ (xs : List C) (at i : ℕ) (c : C) (is : at ≡ i + 1) (lt : i < length xs) (there : c ≡ get_or xs i c) (left : AreLeft xs at) where
    one_less : (known : List ℕ) → bytes_by (take at xs) named cut bytes number ≡ Some known → bytes_after number (named c) (cut c) (bytes c) (bytes_by (take i xs) named cut bytes number) ≡ Some known
    one_less known gives = sym (step xs i c lt there) ∙ (ap (λ (n : ℕ). bytes_by (take n xs) named cut bytes number) (sym is) ∙ gives)

    pub given_here : (file : List ℕ) → file ≡ bytes c → has_name (Snapshot number) (named c) ≡ true → IfSome (bytes_by xs named cut bytes number) (λ known. file ≡ known)
    given_here file same had = by (bytes_by xs named cut bytes number) left
      where
        by : (o : Option (List ℕ)) → IfSome o (λ known. bytes_by (take at xs) named cut bytes number ≡ Some known) → IfSome o (λ known. file ≡ known)
        by None gives = tt
        by (Some known) gives = same ∙ last_named number (named c) (cut c) (bytes c) (bytes_by (take i xs) named cut bytes number) known (one_less known gives) had

    pub cut_here : has_name (Snapshot number) (named c) ≡ false → has_name (Snapshot number) (cut c) ≡ true → IfSome (bytes_by xs named cut bytes number) (λ known. [] ≡ known)
    cut_here had was_cut = by (bytes_by xs named cut bytes number) left
      where
        by : (o : Option (List ℕ)) → IfSome o (λ known. bytes_by (take at xs) named cut bytes number ≡ Some known) → IfSome o (λ known. [] ≡ known)
        by None gives = tt
        by (Some known) gives = last_cut number (named c) (cut c) (bytes c) (bytes_by (take i xs) named cut bytes number) known (one_less known gives) had was_cut

    pub given_before : has_name (Snapshot number) (named c) ≡ false → has_name (Snapshot number) (cut c) ≡ false → AreLeft xs i
    given_before had was_cut = by (bytes_by xs named cut bytes number) left
      where
        by : (o : Option (List ℕ)) → IfSome o (λ known. bytes_by (take at xs) named cut bytes number ≡ Some known) → IfSome o (λ known. bytes_by (take i xs) named cut bytes number ≡ Some known)
        by None gives = tt
        by (Some known) gives = untouched number (named c) (cut c) (bytes c) (bytes_by (take i xs) named cut bytes number) known (one_less known gives) had was_cut

pub same_known : (o : Option (List ℕ)) (got file : List ℕ) → IfSome o (λ known. got ≡ known) → file ≡ got → IfSome o (λ known. file ≡ known)
same_known None got file is same = tt
same_known (Some known) got file is same = same ∙ is

-- a file that was opened has the bytes that are said of its name
pub opened_by : (d : DirectoryState) (name : Name) (seen : Option (List ℕ)) → ((number : ℕ) → name ≡ Snapshot number → IfSome (d.bytes number) (λ known. IfSome seen (λ file. file ≡ known))) → HasItsBytes d name seen
opened_by d (Snapshot number) seen has = has number refl
opened_by d (Journal number) seen has = tt
opened_by d Making seen has = tt
