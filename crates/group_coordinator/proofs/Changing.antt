-- All members of a group are changed where they stand.
use Rattle.std.proofs.Common.{◌≡◌, ℕ, List, ◌++◌, map, take, drop, length, sym, ap, ◌∙◌}
use Rattle.std.proofs.lemmas.List.{length-map}
use Rattle.group_coordinator.specs.Members.{Member}
use Rattle.group_coordinator.specs.Groups.{Group}
use Rattle.group_coordinator.specs.declared.values.Phase.TheVariants.{Stable}
use Rattle.group_coordinator.proofs.Finding.{written_all}

-- what was written over all members, so many
all_written : (f : Member → Member) (n : ℕ) (us ms ns : List Member) → ms ≡ us → length ms ≡ n → ns ≡ map f ms → take n (ns ++ drop (length ns) us) ≡ map f us
all_written f n us ms ns are long made =
    let of_us : length us ≡ length ms = ap length (sym are) in
    let of_ns : length ns ≡ length ms = ap length made ∙ length-map ms f in
    written_all n us ns (of_us ∙ long) (of_ns ∙ long) ∙ made ∙ ap (map f) are

-- a group as it is kept, and its value; its members, and what became of them
pub changed_in : (u g : Group) (f : Member → Member) (n : ℕ) (ms ns : List Member) → u ≡ g → ms ≡ u.members → length ms ≡ n → ns ≡ map f ms
    → (record u { members = take n (ns ++ drop (length ns) u.members) }) ≡ (record g { members = map f g.members })
changed_in u g f n ms ns same are long made = (λ i. record u { members = all_written f n u.members ms ns are long made i }) ∙ ap (λ (x : Group). record x { members = map f x.members }) same

-- and it is stable now
pub stable_in : (u g : Group) (f : Member → Member) (n : ℕ) (ms ns : List Member) → u ≡ g → ms ≡ u.members → length ms ≡ n → ns ≡ map f ms
    → (record u { phase = Stable; members = take n (ns ++ drop (length ns) u.members) }) ≡ (record g { phase = Stable; members = map f g.members })
stable_in u g f n ms ns same are long made =
    (λ i. record u { phase = Stable; members = all_written f n u.members ms ns are long made i }) ∙ ap (λ (x : Group). record x { phase = Stable; members = map f x.members }) same
