-- Units with the new numbers of their nodes.
use Rattle.std.proofs.Common.{◌≡◌, refl, ap, ap₂, ℕ, suc, ◌+◌, ◌<◌, arith}
use Rattle.std.proofs.Common.{List, [], ◌∷◌, length, map, get_or, slice_index, All, Bool, true}
use Rattle.std.proofs.Common.{cond}
use Rattle.strc_elab_graph.specs.declared.graph.Fission.{Fission}
use Rattle.strc_fiss.specs.Numbers.{up_to, base, is_dealt, last_of, share_at}
use Rattle.strc_fiss.proofs.Bases.{base_read, share_read, parts_within}

pub map_bases : (share : ℕ → Fission) (bases : List ℕ) (size : ℕ) (nodes : List ℕ)
    → bases ≡ up_to (base share) (suc size) → All (λ node. node < size) nodes
    → map (slice_index bases) nodes ≡ map (base share) nodes
map_bases share bases size [] are all = refl
map_bases share bases size (node ∷ nodes) are all =
    let here : node < size = all 0 node (omega arith) in
    ap₂ (λ n l. n ∷ l)
    (base_read share bases size node 0 are (omega (arith, here)))
    (map_bases share bases size nodes are (λ k d less. all (suc k) d (omega (arith, less))))

pub last_dealt : (fission : Fission) → is_dealt fission ≡ true → last_of fission ≡ suc fission.ways
last_dealt fission is = ap (λ (t : Bool). cond t (suc fission.ways) 0) is

-- the parts of a node that is split
pub dealt_within : (shares : List Fission) (bases : List ℕ) (node d limit : ℕ) (other : Fission)
    → bases ≡ up_to (base (share_at shares)) (suc (length shares)) → node < length shares
    → is_dealt (share_at shares node) ≡ true
    → base (share_at shares) (length shares) < limit
    → get_or bases node d + suc (get_or shares node other).ways < limit
dealt_within shares bases node d limit other are less is within = omega (
  arith,
  within,
  last_dealt (share_at shares node) is,
  ap last_of (share_read shares node other less),
  ap (λ (f : Fission). f.ways) (share_read shares node other less),
  parts_within shares bases node d other are less,
)
