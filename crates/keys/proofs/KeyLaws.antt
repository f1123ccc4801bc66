-- Keys on plain values: joined pieces are the rules' key.
-- Assumes nothing.
use mathlib.Core.Path.{◌≡◌, ap, ap₂, ◌∙◌}
use mathlib.Core.List.{◌++◌, append_assoc}
use Prim.Native.Nat.{◌-◌}
use lib.ListN.{take}
use Rattle.rules.specs.Places.{Bytes}
use Rattle.rules.specs.Calls.{Family}
use Rattle.rules.specs.Trees.{node}
use Rattle.rules.specs.Layers.{layer_tree, own_root}
use Rattle.rules.specs.Sets.{Row}
use Rattle.rules.specs.Keys.{key_root, public_key, secret_key}
use Rattle.rows.specs.declared.Row as rows
use Rattle.rows.specs.Rows.{ruled_row}
use Rattle.calls.specs.declared.Kit.{Kit}
use Rattle.calls.specs.Hashes.{hashes_of, family_for, kit_for}

-- The topmost tree's node at its full height, by the row's kit, is the key's root.
pub root_made : (row : rows.Row) (sk pk v : Bytes) {k : Kit} → k ≡ kit_for row
    → take k.n v ≡ (node (hashes_of k pk) (layer_tree (hashes_of k pk) sk (row.d - 1) 0) row.hp 0).result
    → take row.n v ≡ (key_root (ruled_row row) (family_for (ruled_row row)) sk pk).result
unfolding key_root own_root
root_made row sk pk v e g = rw e at g

module _ (r : Row) (f : Family r.n r.m) (sk pk : Bytes) {v public : Bytes} (e : v ≡ (key_root r f sk pk).result)
    (made : public ≡ pk ++ v) where
  pub public_made : public ≡ public_key r f sk pk
  unfolding public_key
  public_made = made ∙ ap (λ (x : Bytes). pk ++ x) e

  -- The secret key: its two seeds, and then the public key.
  pub secret_made : (prf : Bytes) {xs ys : Bytes} → xs ≡ sk ++ prf → ys ≡ public → xs ++ ys ≡ secret_key r f sk prf pk
  unfolding secret_key
  secret_made prf g h =
      ap₂ ◌++◌ g (h ∙ made ∙ ap (λ (x : Bytes). pk ++ x) e)
      ∙ append_assoc sk prf (pk ++ (key_root r f sk pk).result)
