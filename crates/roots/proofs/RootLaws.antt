-- The root that a seal leads to on plain values: the forest on its part of the seal, and the layers on theirs, are the
-- rules' walk.
-- Assumes nothing.
use mathlib.Core.Path.{◌≡◌, sym, ap, ap₂, ◌∙◌}
use mathlib.Core.List.{List}
use Prim.Native.Nat.{ℕ, suc, ◌+◌, ◌-◌, ◌*◌, ◌^◌, ◌≤◌, ◌<◌}
use native.Mathlib.Omega.{arith}
use lib.ListN.{length, take, drop, length-drop}
use Rattle.lists.proofs.Lent.{lent}
use Rattle.lists.proofs.Filling.{rest_read, lent_length}
use Rattle.rules.specs.Places.{Bytes}
use Rattle.rules.specs.Calls.{F, of, Family, under, Run, ◌>>=◌}
use Rattle.rules.specs.Layers.{layers_root}
use Rattle.rules.specs.Forest.{tree_bytes, forest_bytes, forest_root}
use Rattle.rules.specs.Sets.{Row}
use Rattle.rules.specs.Digest.{Pointed}
use Rattle.rules.specs.Seal.{part_start, part_length, part}
use Rattle.rules.specs.Check.{layers_part, root_at}
use Rattle.counts.specs.Counts.{is, count}
use Rattle.counts.proofs.CountLaws.{count_append, forest_count}
use Rattle.rows.specs.Ready.{Ready}
use Rattle.rows.specs.Shapes.{forest_size, layer_size}
use Rattle.rows.proofs.SizeLaws.{seal_size, layers_start}
use Rattle.layer_walks.proofs.UpLaws.{up_calls, up_most}

-- ---- The two parts that are walked

module _ (r : Row) where
  -- Where the forest's part ends.
  abbrev pub end : ℕ
  end = r.n + forest_size r

  module _ (seal : Bytes) where
    abbrev pub forest_part : Bytes
    forest_part = take (end - r.n) (drop r.n seal)

    abbrev pub rest : Bytes
    rest = take (length seal - end) (drop end seal)

    module _ (ready : Ready r) (long : length seal ≡ r.seal_bytes) where
      pub forest_long : length forest_part ≡ forest_size r
      forest_long = lent_length r.n (forest_size r) seal (omega (arith, long, seal_size r ready))

      pub rest_long : length rest ≡ r.d * layer_size r
      rest_long = ap length (rest_read end seal) ∙ length-drop end seal ∙ omega (arith, long, seal_size r ready)

-- ---- The root at a place

module _ (r : Row) (f : Family r.n r.m) (pk : Bytes) (at : Pointed) (seal : Bytes) where
  abbrev low : Run Bytes
  low = forest_root (under f pk) at.tree at.leaf r.a at.indices (forest_part r seal)

  abbrev up : Bytes → Run Bytes
  up v = layers_root (under f pk) r.h' (r.d - 1) 0 at.tree at.leaf v (rest r seal)

  root_cut : root_at r f pk seal at ≡ (low >>= λ v. up v)
  unfolding root_at layers_part part part_length part_start forest_bytes tree_bytes
  root_cut =
      ap₂ (λ x y. forest_root (under f pk) at.tree at.leaf r.a at.indices x
      >>= λ v. layers_root (under f pk) r.h' (r.d - 1) 0 at.tree at.leaf v y)
      (sym (lent r.n (forest_size r) seal))
      (ap (λ k. drop k seal) (layers_start r) ∙ sym (rest_read (end r) seal))

  module _ {v : Bytes} (e : v ≡ low.result) where
    pub root_made : {root : Bytes} → root ≡ (up v).result → root ≡ (root_at r f pk seal at).result
    root_made g = g ∙ ap (λ x. (up x).result) e ∙ sym (ap (λ x. x.result) root_cut)

    pub root_calls : {below above : ℕ} → below ≡ count (of F) low.calls → above ≡ count (of F) (up v).calls
        → below + above ≡ count (of F) (root_at r f pk seal at).calls
    root_calls g h =
        ap₂ ◌+◌ g (h ∙ ap (λ x. count (of F) (up x).calls) e)
        ∙ sym (ap (λ x. count (of F) x.calls) root_cut ∙ count_append (of F) low.calls (up low.result).calls)

-- The calls fit a word, at whatever places they are made.
module _ (r : Row) (f : Family r.n r.m) (pk seal : Bytes) (ready : Ready r)
    (long : length seal ≡ r.seal_bytes) where
  pub few_calls : (ds : List ℕ) → length ds ≡ r.k → (t l u i : ℕ) (v : Bytes) {below above : ℕ}
      → below ≡ count (of F) (forest_root (under f pk) t l r.a ds (forest_part r seal)).calls
      → above ≡ count (of F) (layers_root (under f pk) r.h' (r.d - 1) 0 u i v (rest r seal)).calls
      → below + above < 2 ^ 32
  unfolding is
  few_calls ds many t l u i v g h =
      let d : suc (r.d - 1) ≡ r.d = omega (arith, ready.legal.some_layer) in
      let high : suc (r.d - 1) * 1005 ≤ 64 * 1005 = omega (arith, ready.fit.layers) in
      omega (
        arith,
        g,
        h,
        many,
        ready.fit.trees,
        forest_count (under f pk) (of F) t l r.a ds (forest_part r seal),
        up_calls (under f pk) r.h' (r.d - 1) 0 u i v (rest r seal)
            (rest_long r seal ready long ∙ ap (λ k. k * layer_size r) (sym d)),
        up_most (under f pk) r.h' (suc (r.d - 1)) 0 u i v (rest r seal) ready.fit.values,
      )
