-- Results of equal parts are equal, as laws over variables: so that a wrong part is named where it stands. Assumes nothing.
use mathlib.Core.Path.{◌≡◌}
use mathlib.Core.List.{List}
use Prim.Native.Nat.{ℕ}
use Rattle.base.specs.declared.units.Mv.{Mv}
use Rattle.lists.specs.MvRef.{sub_list}
use Rattle.lists.specs.declared.mv_ref.MvPair.{MvPair}
use Rattle.lists.specs.declared.mv_ref.MvRefs.{MvRefs}

pub pair_same : {a b x y : Mv} → a ≡ x → b ≡ y
    → ◌≡◌ {A = MvPair} (record { answer = 0; first = a; second = b }) (record { answer = 0; first = x; second = y })
pair_same e f = rw (e, f)

pub refs_same : {a b x y : Mv} {k n : ℕ} → a ≡ x → b ≡ y → k ≡ n
    → ◌≡◌ {A = MvRefs} (record { answer = 0; first = a; second = b; context = k }) (record { answer = 0; first = x; second = y; context = n })
refs_same e f g = rw (e, f, g)

pub list_same : (block : ℕ) (m : List Mv) {a b x y : Mv} → a ≡ x → b ≡ y → sub_list block m a b ≡ sub_list block m x y
list_same block m e f = rw (e, f)
