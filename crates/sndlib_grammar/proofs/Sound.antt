-- Symbols that lead from a state to the end are what the grammar says.
use Rattle.std.proofs.Common.{◌≡◌, ℕ, zero, suc, ◌+◌, List, [], ◌∷◌, ◌++◌, length, refl, ap, sym, subst, ◌∙◌, arith, append_assoc, append-nil, Some, None}
use Rattle.std.specs.Prelude.{codes, option_and_then}
use Rattle.std.specs.List.{flat_map}
use Rattle.sndlib_grammar.specs.declared.mode.Part.{Part}
use Rattle.sndlib_grammar.specs.declared.mode.Part.TheVariants as parts
use Rattle.sndlib_grammar.specs.declared.mode.Mode.{Mode}
use Rattle.sndlib_grammar.specs.declared.mode.Mode.TheVariants.{Between, OpeningNodes, OpeningLinks, OpeningDemands, Naming, Skipping, Nodes, Node, Place, Links, Capacity, Demands}
use Rattle.sndlib_grammar.specs.Grammar.{Symbol, Left, Right, Name, Word, NodeEntry, LinkEntry, DemandEntry, Entries, names, node, link, demand, Nothing, AWord, AGroup, items, Skip, skip, Module, pair}
use Rattle.sndlib_grammar.specs.Modes.{keyword_of, between}
use Rattle.sndlib_grammar.specs.Reading.{Sofar, Draft, read, with_node, with_link, with_demand, with_skip, link_of, demand_of, kept}
use Rattle.sndlib_grammar.proofs.Keywords.{IsKeyword, keyword_is}
use Rattle.sndlib_grammar.proofs.Meaning.{AfterSkips, Opens, Ends, From, InDemands, InLinks, InNodes, Closes, InGroups, OpensGroup, InNode, Meaning}

no_skips : (P : Entries → List Symbol → Type 0) (r : Entries) (ts : List Symbol) → P r ts → AfterSkips r ts P
no_skips P r ts p =
    let e : r.skipped + 0 ≡ r.skipped = omega arith in
    record { skips = []; rest = ts; fit = tt; text = refl; then = subst (λ k. P (record r { skipped = k }) ts) (sym e) p }

one_skip : (P : Entries → List Symbol → Type 0) (r : Entries) (w : Word) (ts : List Symbol) → keyword_of w.text ≡ parts.Rest → OpensGroup ts (λ rest. Closes rest (λ more. AfterSkips (with_skip r) more P)) → AfterSkips r (Name w ∷ ts) P
one_skip P r w ts e g =
    let is = subst (λ k. IsKeyword k w.text) e (keyword_is w.text) in
    let c = g.then in
    let a = c.then in
    let s : Skip = record { name = w; inside = c.inside } in
    let regroup : items c.inside ++ (Right ∷ (flat_map skip a.skips ++ a.rest)) ≡ (items c.inside ++ Right ∷ []) ++ flat_map skip a.skips ++ a.rest = simp append_assoc in
    let count : r.skipped + 1 + length a.skips ≡ r.skipped + suc (length a.skips) = omega arith in
    record {
      skips = s ∷ a.skips;
      rest = a.rest;
      fit = (record { not_nodes = is.0; not_links = is.1; not_demands = is.2 }, a.fit);
      text = ap (λ (l : List Symbol). Name w ∷ l) (g.text ∙ ap (λ (l : List Symbol). Left ∷ l) (c.text ∙ ap (λ (l : List Symbol). items c.inside ++ (Right ∷ l)) a.text ∙ regroup));
      then = subst (λ k. P (record r { skipped = k }) a.rest) count a.then;
    }

skip_first : (p : Part) (found r : Entries) (w : Word) (ts : List Symbol) → keyword_of w.text ≡ parts.Rest → OpensGroup ts (InGroups 0 p found r) → From p found r (Name w ∷ ts)
skip_first parts.Rest found r w ts e g = one_skip _ r w ts e g
skip_first parts.Demands found r w ts e g = one_skip _ r w ts e g
skip_first parts.Links found r w ts e g = one_skip _ r w ts e g
skip_first parts.Nodes found r w ts e g = one_skip _ r w ts e g

opens : (name : List ℕ) (P : Entries → List Symbol → Type 0) (r : Entries) (w : Word) (ts : List Symbol) → w.text ≡ name → OpensGroup ts (P r) → AfterSkips r (Name w ∷ ts) (λ r ts. Opens name r ts P)
opens name P r w ts is g = no_skips (λ r ts. Opens name r ts P) r (Name w ∷ ts) (record { word = w; rest = g.rest; is = is; text = ap (λ (l : List Symbol). Name w ∷ l) g.text; then = g.then })

-- a word in a group, or a group in it, before what closes it
word_in : (P : List Symbol → Type 0) (w : Word) (ts : List Symbol) → Closes ts P → Closes (Name w ∷ ts) P
word_in P w ts c = record { inside = AWord w c.inside; rest = c.rest; text = ap (λ (l : List Symbol). Name w ∷ l) c.text; then = c.then }

group_in : (P : List Symbol → Type 0) (ts : List Symbol) → Closes ts (λ more. Closes more P) → Closes (Left ∷ ts) P
group_in P ts c =
    let d = c.then in
    let regroup : items c.inside ++ (Right ∷ (items d.inside ++ Right ∷ d.rest)) ≡ (items c.inside ++ Right ∷ items d.inside) ++ Right ∷ d.rest = simp append_assoc in
    record { inside = AGroup c.inside d.inside; rest = d.rest; text = ap (λ (l : List Symbol). Left ∷ l) (c.text ∙ ap (λ (l : List Symbol). items c.inside ++ (Right ∷ l)) d.text ∙ regroup); then = d.then }

word_in_groups : (depth : ℕ) (p : Part) (found r : Entries) (w : Word) (ts : List Symbol) → InGroups depth p found r ts → InGroups depth p found r (Name w ∷ ts)
word_in_groups zero p found r w ts c = word_in _ w ts c
word_in_groups (suc depth) p found r w ts c = word_in _ w ts c

group_in_groups : (depth : ℕ) (p : Part) (found r : Entries) (ts : List Symbol) → InGroups (suc depth) p found r ts → InGroups depth p found r (Left ∷ ts)
group_in_groups zero p found r ts c = group_in _ ts c
group_in_groups (suc depth) p found r ts c = group_in _ ts c

ends_group : (P : List Symbol → Type 0) (ts : List Symbol) → P ts → Closes (Right ∷ ts) P
ends_group P ts p = record { inside = Nothing; rest = ts; text = refl; then = p }

-- one more entry at the front
one_node : (found r : Entries) (n : NodeEntry) (ts rest : List Symbol) → ts ≡ node n ++ rest → InNodes found (with_node r n) rest → InNodes found r ts
one_node found r n ts rest e m =
    let more : (r.nodes ++ n ∷ []) ++ m.nodes ≡ r.nodes ++ (n ∷ m.nodes) = append_assoc r.nodes (n ∷ []) m.nodes in
    record {
      nodes = n ∷ m.nodes;
      rest = m.rest;
      text = e ∙ ap (λ (l : List Symbol). node n ++ l) m.text ∙ sym (append_assoc (node n) (flat_map node m.nodes) (Right ∷ m.rest));
      then = subst (λ ns. From parts.Links found (record r { nodes = ns }) m.rest) more m.then;
    }

one_link : (found r : Entries) (n : LinkEntry) (ts rest : List Symbol) → ts ≡ link n ++ rest → InLinks found (with_link r n) rest → InLinks found r ts
one_link found r n ts rest e m =
    let more : (r.links ++ n ∷ []) ++ m.links ≡ r.links ++ (n ∷ m.links) = append_assoc r.links (n ∷ []) m.links in
    record {
      links = n ∷ m.links;
      rest = m.rest;
      text = e ∙ ap (λ (l : List Symbol). link n ++ l) m.text ∙ sym (append_assoc (link n) (flat_map link m.links) (Right ∷ m.rest));
      then = subst (λ ns. From parts.Demands found (record r { links = ns }) m.rest) more m.then;
    }

one_demand : (found r : Entries) (n : DemandEntry) (ts rest : List Symbol) → ts ≡ demand n ++ rest → InDemands found (with_demand r n) rest → InDemands found r ts
one_demand found r n ts rest e m =
    let more : (r.demands ++ n ∷ []) ++ m.demands ≡ r.demands ++ (n ∷ m.demands) = append_assoc r.demands (n ∷ []) m.demands in
    record {
      demands = n ∷ m.demands;
      rest = m.rest;
      text = e ∙ ap (λ (l : List Symbol). demand n ++ l) m.text ∙ sym (append_assoc (demand n) (flat_map demand m.demands) (Right ∷ m.rest));
      then = subst (λ ns. From parts.Rest found (record r { demands = ns }) m.rest) more m.then;
    }

no_node : (found r : Entries) (ts : List Symbol) → From parts.Links found r ts → InNodes found r (Right ∷ ts)
no_node found r ts f =
    let none : r.nodes ≡ r.nodes ++ [] = sym (append-nil r.nodes) in
    record { nodes = []; rest = ts; text = refl; then = subst (λ ns. From parts.Links found (record r { nodes = ns }) ts) none f }

no_link : (found r : Entries) (ts : List Symbol) → From parts.Demands found r ts → InLinks found r (Right ∷ ts)
no_link found r ts f =
    let none : r.links ≡ r.links ++ [] = sym (append-nil r.links) in
    record { links = []; rest = ts; text = refl; then = subst (λ ns. From parts.Demands found (record r { links = ns }) ts) none f }

no_demand : (found r : Entries) (ts : List Symbol) → From parts.Rest found r ts → InDemands found r (Right ∷ ts)
no_demand found r ts f =
    let none : r.demands ≡ r.demands ++ [] = sym (append-nil r.demands) in
    record { demands = []; rest = ts; text = refl; then = subst (λ ns. From parts.Rest found (record r { demands = ns }) ts) none f }

-- a node that was read in two steps
whole_node : (found r : Entries) (id : Word) (ts : List Symbol) → InNode found r id ts → InNodes found r (Name id ∷ ts)
whole_node found r id ts m = one_node found r (record { id = id; place = m.at }) (Name id ∷ ts) m.rest (ap (λ (l : List Symbol). Name id ∷ l) m.text) m.then

-- a node without a place
bare_node : (found r : Entries) (id : Word) (ts : List Symbol) → InNodes found (with_node r (record { id = id; place = None })) ts → InNode found r id ts
bare_node found r id ts m = record { at = None; rest = ts; text = refl; then = m }

-- the next state behind a word between two sections
behind_name : (p k : Part) (found : Entries) (s : Sofar) (w : Word) (ts : List Symbol) → keyword_of w.text ≡ k → ((m : Mode) → read m s ts ≡ Some found → Meaning m s found ts)
    → option_and_then (λ m. read m s ts) (between p k) ≡ Some found → From p found s.entries (Name w ∷ ts)
behind_name p parts.Rest found s w ts e sound h = skip_first p found s.entries w ts e (sound (Naming p) h)
behind_name parts.Nodes parts.Nodes found s w ts e sound h = opens (codes "NODES") (InNodes found) s.entries w ts (subst (λ k. IsKeyword k w.text) e (keyword_is w.text)) (sound OpeningNodes h)
behind_name parts.Links parts.Links found s w ts e sound h = opens (codes "LINKS") (InLinks found) s.entries w ts (subst (λ k. IsKeyword k w.text) e (keyword_is w.text)) (sound OpeningLinks h)
behind_name parts.Demands parts.Demands found s w ts e sound h = opens (codes "DEMANDS") (InDemands found) s.entries w ts (subst (λ k. IsKeyword k w.text) e (keyword_is w.text)) (sound OpeningDemands h)
behind_name _ _ found s w ts e sound h = absurd cc

pub sound : (ts : List Symbol) (m : Mode) (s : Sofar) (found : Entries) → read m s ts ≡ Some found → Meaning m s found ts
sound [] (Between parts.Rest) s found h = let same : found ≡ s.entries = cc in no_skips (Ends found) s.entries [] (record { none = refl; entries = same })
sound (Name w ∷ ts) (Between p) s found h = behind_name p (keyword_of w.text) found s w ts refl (λ m e. sound ts m s found e) h
sound ts (Between p) s found h = absurd cc
sound (Left ∷ ts) OpeningNodes s found h = record { rest = ts; text = refl; then = sound ts Nodes s found h }
sound ts OpeningNodes s found h = absurd cc
sound (Left ∷ ts) OpeningLinks s found h = record { rest = ts; text = refl; then = sound ts Links s found h }
sound ts OpeningLinks s found h = absurd cc
sound (Left ∷ ts) OpeningDemands s found h = record { rest = ts; text = refl; then = sound ts Demands s found h }
sound ts OpeningDemands s found h = absurd cc
sound (Left ∷ ts) (Naming p) s found h = record { rest = ts; text = refl; then = sound ts (Skipping p 0) s found h }
sound ts (Naming p) s found h = absurd cc
sound (Name w ∷ ts) (Skipping p depth) s found h = word_in_groups depth p found s.entries w ts (sound ts (Skipping p depth) s found h)
sound (Left ∷ ts) (Skipping p depth) s found h = group_in_groups depth p found s.entries ts (sound ts (Skipping p (suc depth)) s found h)
sound (Right ∷ ts) (Skipping p zero) s found h = ends_group (From p found (with_skip s.entries)) ts (sound ts (Between p) (record s { entries = with_skip s.entries }) found h)
sound (Right ∷ ts) (Skipping p (suc depth)) s found h = ends_group (InGroups depth p found s.entries) ts (sound ts (Skipping p depth) s found h)
sound [] (Skipping p depth) s found h = absurd cc
sound (Name w ∷ ts) Nodes s found h = whole_node found s.entries w ts (sound ts Node (kept Nodes (Name w) s) found h)
sound (Right ∷ ts) Nodes s found h = no_node found s.entries ts (sound ts (Between parts.Links) s found h)
sound ts Nodes s found h = absurd cc
sound (Name w ∷ ts) Node s found h =
    let n : NodeEntry = record { id = s.draft.id; place = None } in
    bare_node found s.entries s.draft.id (Name w ∷ ts) (whole_node found (with_node s.entries n) w ts (sound ts Node (kept Node (Name w) s) found h))
sound (Left ∷ ts) Node s found h =
    let m = sound ts Place (kept Node Left s) found h in
    record { at = Some m.words; rest = m.rest; text = ap (λ (l : List Symbol). Left ∷ l) (m.text ∙ sym (append_assoc (names m.words) (Right ∷ []) m.rest)); then = m.then }
sound (Right ∷ ts) Node s found h =
    let n : NodeEntry = record { id = s.draft.id; place = None } in
    bare_node found s.entries s.draft.id (Right ∷ ts) (no_node found (with_node s.entries n) ts (sound ts (Between parts.Links) (kept Node Right s) found h))
sound [] Node s found h = absurd cc
sound (Name w ∷ ts) Place s found h =
    let m = sound ts Place (kept Place (Name w) s) found h in
    record { words = w ∷ m.words; rest = m.rest; text = ap (λ (l : List Symbol). Name w ∷ l) m.text; then = subst (λ ws. InNodes found (with_node s.entries (record { id = s.draft.id; place = Some ws })) m.rest) (append_assoc s.words (w ∷ []) m.words) m.then }
sound (Right ∷ ts) Place s found h =
    record { words = []; rest = ts; text = refl; then = subst (λ ws. InNodes found (with_node s.entries (record { id = s.draft.id; place = Some ws })) ts) (sym (append-nil s.words)) (sound ts Nodes (kept Place Right s) found h) }
sound ts Place s found h = absurd cc
sound (Name id ∷ Left ∷ Name source ∷ Name target ∷ Right ∷ Name a ∷ Name b ∷ Name c ∷ Name d ∷ Left ∷ ts) Links s found h =
    let draft : Draft = record s.draft { id = id; source = source; target = target; first = a; second = b; third = c; fourth = d } in
    let m = sound ts Capacity (record { draft = draft; words = s.words; modules = []; entries = s.entries }) found h in
    one_link found s.entries (link_of draft m.modules) (Name id ∷ Left ∷ Name source ∷ Name target ∷ Right ∷ Name a ∷ Name b ∷ Name c ∷ Name d ∷ Left ∷ ts) m.rest
    (ap (λ (l : List Symbol). Name id ∷ Left ∷ Name source ∷ Name target ∷ Right ∷ Name a ∷ Name b ∷ Name c ∷ Name d ∷ Left ∷ l) (m.text ∙ sym (append_assoc (flat_map pair m.modules) (Right ∷ []) m.rest)))
    m.then
sound (Right ∷ ts) Links s found h = no_link found s.entries ts (sound ts (Between parts.Demands) s found h)
sound ts Links s found h = absurd cc
sound (Name a ∷ Name b ∷ ts) Capacity s found h =
    let one : Module = record { capacity = a; cost = b } in
    let m = sound ts Capacity (record s { draft = record s.draft { capacity = a }; modules = s.modules ++ one ∷ [] }) found h in
    record { modules = one ∷ m.modules; rest = m.rest; text = ap (λ (l : List Symbol). Name a ∷ Name b ∷ l) m.text; then = subst (λ ms. InLinks found (with_link s.entries (link_of s.draft ms)) m.rest) (append_assoc s.modules (one ∷ []) m.modules) m.then }
sound (Right ∷ ts) Capacity s found h =
    record { modules = []; rest = ts; text = refl; then = subst (λ ms. InLinks found (with_link s.entries (link_of s.draft ms)) ts) (sym (append-nil s.modules)) (sound ts Links (kept Capacity Right s) found h) }
sound ts Capacity s found h = absurd cc
sound (Name id ∷ Left ∷ Name source ∷ Name target ∷ Right ∷ Name a ∷ Name b ∷ Name c ∷ ts) Demands s found h =
    let draft : Draft = record s.draft { id = id; source = source; target = target; first = a; second = b } in
    one_demand found s.entries (demand_of draft c) (Name id ∷ Left ∷ Name source ∷ Name target ∷ Right ∷ Name a ∷ Name b ∷ Name c ∷ ts) ts refl
    (sound ts Demands (record { draft = draft; words = s.words; modules = s.modules; entries = with_demand s.entries (demand_of draft c) }) found h)
sound (Right ∷ ts) Demands s found h = no_demand found s.entries ts (sound ts (Between parts.Rest) s found h)
sound ts Demands s found h = absurd cc
sound ts m s found h = tt
