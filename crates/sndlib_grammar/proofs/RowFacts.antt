-- What holds of the rows of every text.
use Rattle.std.proofs.Common.{◌≡◌, ◌≢◌, ℕ, zero, suc, ◌+◌, ◌<◌, ◌≤◌, List, [], ◌∷◌, ◌++◌, length, get_or, refl, ap, sym, subst, ◌∙◌, arith, append_assoc, append-nil, Option, Some, None, Result, Ok, Err, Bool, true, false, cond}
use Rattle.std.specs.Prelude.{not, ◌||◌, map, find, codes, slice_get, if◌then◌else◌, All}
use Rattle.std.specs.List.{AllByRecursion, list_any, position_or_len}
use Rattle.std.specs.Str.{bytes_eq}
use Rattle.std.proofs.lemmas.List.{length-map}
use Rattle.std.proofs.lemmas.List.Elements.{All-from_recursion}
use Rattle.std.proofs.lemmas.List.Quantifiers.{all_pairs_push}
use Rattle.std.proofs.lemmas.Slice.Eq.{bytes_eq-Decides}
use Rattle.mcf_limits.specs.declared.TheConstants.{MAX_DEMANDS, MAX_LINKS, MAX_NODES}
use Rattle.sndlib_grammar.specs.Number.{is_number}
use Rattle.sndlib_grammar.specs.declared.refusal.NetKind.{NetKind}
use Rattle.sndlib_grammar.specs.declared.refusal.NetKind.TheVariants as netkinds
use Rattle.sndlib_grammar.specs.declared.refusal.NetRefusal.{NetRefusal}
use Rattle.sndlib_grammar.specs.Grammar.{Word, NodeEntry, LinkEntry, DemandEntry, Entries, node, link, demand}
use Rattle.sndlib_grammar.specs.Faults.{node_ids, link_ids, demand_ids, texts, is_among, or_else, line_of, first_of, too_many, first_repeated, repeated, first_unknown, unknown_of_link, unknown_of_demand, unknown, is_bad, is_bad_longest, bad_module, bad_of_link, bad_of_demand, bad_number, at_line, fault_of}
use Rattle.sndlib_grammar.specs.Rows.{NetNode, NetLink, NetDemand, NetRows, node_number, net_node, net_link, net_demand, net_rows, IsWord, AreDistinct, IsNetNode, IsNetLink, IsNetDemand, AreNetRows}
use Rattle.sndlib_grammar.specs.Words.{OnSymbols, AreWordEntries}
use Rattle.sndlib_grammar.specs.Slices.{IsSliceOf, AreSlicesOf}
use Rattle.sndlib_grammar.specs.Text.{end_of, read_of}
use Rattle.sndlib_grammar.specs.Net.{unless_fault, judged, rows_of}
use Rattle.sndlib_grammar.proofs.WordLaws.{text_words, text_slices}
use Rattle.sndlib_grammar.proofs.RowWords.{on_node, on_link, on_demand, on_rows, through}

-- ---- no fault, kind by kind

pub first_none : {X : Type 0} (a b : Option X) → or_else a b ≡ None → a ≡ None
first_none None b h = refl
first_none (Some x) b h = absurd cc

pub second_none : {X : Type 0} (a b : Option X) → or_else a b ≡ None → b ≡ None
second_none None b h = h
second_none (Some x) b h = absurd cc

no_line : (o : Option Word) → line_of o ≡ None → o ≡ None
no_line None h = refl
no_line (Some w) h = absurd cc

not_at : (kind : NetKind) (o : Option ℕ) → at_line kind o ≡ None → o ≡ None
not_at kind None h = refl
not_at kind (Some n) h = absurd cc

pub record IsSound (e : Entries) : Type 0 where
  pub count : too_many e ≡ None
  pub names : repeated e ≡ None
  pub ends : unknown e ≡ None
  pub numbers : bad_number e ≡ None

pub sound_parts : (e : Entries) → fault_of e ≡ None → IsSound e
sound_parts e h =
    let a = at_line netkinds.TooMany (too_many e) in
    let b = at_line netkinds.Duplicate (repeated e) in
    let c = at_line netkinds.UnknownNode (unknown e) in
    let d = at_line netkinds.BadNumber (bad_number e) in
    let h1 = second_none a (or_else b (or_else c d)) h in
    let h2 = second_none b (or_else c d) h1 in
    record {
      count = not_at netkinds.TooMany (too_many e) (first_none a (or_else b (or_else c d)) h);
      names = not_at netkinds.Duplicate (repeated e) (first_none b (or_else c d) h1);
      ends = not_at netkinds.UnknownNode (unknown e) (first_none c d h2);
      numbers = not_at netkinds.BadNumber (bad_number e) (second_none c d h2);
    }

-- ---- counts

within : (xs : List Word) (n : ℕ) → line_of (slice_get xs n) ≡ None → length xs ≤ n
within [] n h = omega arith
within (x ∷ xs) zero h = absurd cc
within (x ∷ xs) (suc n) h = let rest = within xs n h in omega arith

-- ---- distinct names

-- at each place of a list, from its front and the rest
at_place : (p : List ℕ → Bool) (x : List ℕ) (xs : List (List ℕ)) (k : ℕ) (d : List ℕ) → p x ≡ false → ((i : ℕ) → i < length xs → p (get_or xs i d) ≡ false) → k < length (x ∷ xs) → p (get_or (x ∷ xs) k d) ≡ false
at_place p x xs zero d e rest lt = e
at_place p x xs (suc k) d e rest lt = rest k (omega arith)

none_among : (p : List ℕ → Bool) (xs : List (List ℕ)) (k : ℕ) (d : List ℕ) → list_any p xs ≡ false → k < length xs → p (get_or xs k d) ≡ false
none_among p [] k d h lt = absurd (omega arith)
none_among p (x ∷ xs) k d h lt =
    let go = elim (p x) as (λ (c : Bool). p x ≡ c → (c || list_any p xs) ≡ false → p (get_or (x ∷ xs) k d) ≡ false)
    [ true ↦ λ e a. absurd cc | false ↦ λ e a. at_place p x xs k d e (λ i less. none_among p xs i d a less) lt ] in
    go refl h

differs : (v w : List ℕ) → bytes_eq v w ≡ false → w ≢ v
differs v w other same = let yes = (bytes_eq-Decides v w).1 (sym same) in absurd cc

grows : (known : List (List ℕ)) (ws : List Word) → AreDistinct known → first_repeated known ws ≡ None → AreDistinct (known ++ texts ws)
grows known [] distinct h = subst AreDistinct (sym (append-nil known)) distinct
grows known (w ∷ ws) distinct h =
    let go = elim (is_among known w) as (λ (c : Bool). is_among known w ≡ c → (if c then Some w else first_repeated (known ++ w.text ∷ []) ws) ≡ None → AreDistinct (known ++ texts (w ∷ ws))) [
      | true ↦ λ e a. absurd cc
      | false ↦ λ e a.
          (let new : AreDistinct (known ++ w.text ∷ []) = all_pairs_push (λ a b. a ≢ b) known w.text distinct (λ k d lt. differs w.text (get_or known k d) (none_among (bytes_eq w.text) known k d e lt)) in
          subst AreDistinct (append_assoc known (w.text ∷ []) (texts ws)) (grows (known ++ w.text ∷ []) ws new a))
    ] in
    go refl h

pub distinct : (ws : List Word) → line_of (first_repeated [] ws) ≡ None → AreDistinct (texts ws)
distinct ws h = grows [] ws (λ i j d lt le. absurd (omega arith)) (no_line (first_repeated [] ws) h)

-- ---- ends

found_within : (p : List ℕ → Bool) (xs : List (List ℕ)) → list_any p xs ≡ true → position_or_len p xs < length xs
found_within p [] h = absurd cc
found_within p (x ∷ xs) h =
    let go = elim (p x) as (λ (c : Bool). (c || list_any p xs) ≡ true → cond (not c) (1 + position_or_len p xs) 0 < length (x ∷ xs))
    [ true ↦ λ a. omega arith | false ↦ λ a. (let rest = found_within p xs a in omega arith) ] in
    go h

known_end : (known : List (List ℕ)) (w : Word) (rest : List Word) → find (λ v. not (is_among known v)) (w ∷ rest) ≡ None → (is_among known w ≡ true) × (find (λ v. not (is_among known v)) rest ≡ None)
known_end known w rest h =
    let go = elim (is_among known w) as (λ (c : Bool). is_among known w ≡ c → (if not c then Some w else find (λ v. not (is_among known v)) rest) ≡ None → (is_among known w ≡ true) × (find (λ v. not (is_among known v)) rest ≡ None))
    [ true ↦ λ e a. (e, a) | false ↦ λ e a. absurd cc ] in
    go refl h

pub ends_known : (known : List (List ℕ)) (source target : Word) → first_unknown known (source ∷ target ∷ []) ≡ None → (is_among known source ≡ true) × (is_among known target ≡ true)
ends_known known source target h =
    let a = known_end known source (target ∷ []) (no_line (find (λ v. not (is_among known v)) (source ∷ target ∷ [])) h) in
    (a.0, (known_end known target [] a.1).0)

pub is_node : (known : List (List ℕ)) (w : Word) → is_among known w ≡ true → node_number known w < length known
is_node known w h = found_within (bytes_eq w.text) known h

pub all_none : {X : Type 0} (f : X → Option ℕ) (xs : List X) → first_of f xs ≡ None → AllByRecursion (λ x. f x ≡ None) xs
all_none f [] h = tt
all_none f (x ∷ xs) h = (first_none (f x) (first_of f xs) h, all_none f xs (second_none (f x) (first_of f xs) h))

-- ---- numbers

good : (w : Word) (rest : List Word) → line_of (find is_bad (w ∷ rest)) ≡ None → (is_number w.text ≡ true) × (line_of (find is_bad rest) ≡ None)
good w rest h =
    let go = elim (is_number w.text) as (λ (c : Bool). is_number w.text ≡ c → line_of (if not c then Some w else find is_bad rest) ≡ None → (is_number w.text ≡ true) × (line_of (find is_bad rest) ≡ None))
    [ true ↦ λ e a. (e, a) | false ↦ λ e a. absurd cc ] in
    go refl h

good_longest : (w : Word) → line_of (find is_bad_longest (w ∷ [])) ≡ None → (bytes_eq w.text (codes "UNLIMITED") || is_number w.text) ≡ true
good_longest w h =
    let go = elim (bytes_eq w.text (codes "UNLIMITED") || is_number w.text) as (λ (c : Bool). line_of (if not c then Some w else None) ≡ None → c ≡ true)
    [ true ↦ λ a. refl | false ↦ λ a. absurd cc ] in
    go h

line_of-or_else : (a b : Option Word) → line_of (or_else a b) ≡ or_else (line_of a) (line_of b)
line_of-or_else None b = refl
line_of-or_else (Some w) b = refl

record HasNumbers (d : DemandEntry) : Type 0 where
  unit : is_number d.unit.text ≡ true
  value : is_number d.value.text ≡ true
  longest : (bytes_eq d.longest.text (codes "UNLIMITED") || is_number d.longest.text) ≡ true

demand_numbers : (d : DemandEntry) → bad_of_demand d ≡ None → HasNumbers d
demand_numbers d h =
    let a = find is_bad (d.unit ∷ d.value ∷ []) in
    let b = find is_bad_longest (d.longest ∷ []) in
    let both : or_else (line_of a) (line_of b) ≡ None = sym (line_of-or_else a b) ∙ h in
    let unit = good d.unit (d.value ∷ []) (first_none (line_of a) (line_of b) both) in
    let value = good d.value [] unit.1 in
    record { unit = unit.0; value = value.0; longest = good_longest d.longest (second_none (line_of a) (line_of b) both) }

-- ---- rows

node_row : (n : NodeEntry) → OnSymbols IsWord (node n) → IsNetNode (net_node n)
node_row n h = let words = on_node IsWord n h in record { id = words.id; place = words.place }

link_row : (known : List (List ℕ)) (l : LinkEntry) → OnSymbols IsWord (link l) → unknown_of_link known l ≡ None → bad_of_link l ≡ None → IsNetLink (length known) (net_link known l)
link_row known l h ends numbers =
    let words = on_link IsWord known l h in
    let e = ends_known known l.source l.target ends in
    let n = good l.installed [] (first_none (line_of (find is_bad (l.installed ∷ []))) (bad_module l.modules) numbers) in
    record {
      id = words.id;
      source = is_node known l.source e.0;
      target = is_node known l.target e.1;
      installed = words.installed;
      costs = words.costs;
      cost_count = refl;
      modules = words.modules;
      number = n.0;
    }

demand_row : (known : List (List ℕ)) (d : DemandEntry) → OnSymbols IsWord (demand d) → unknown_of_demand known d ≡ None → bad_of_demand d ≡ None → IsNetDemand (length known) (net_demand known d)
demand_row known d h ends numbers =
    let words = on_demand IsWord known d h in
    let e = ends_known known d.source d.target ends in
    let n = demand_numbers d numbers in
    record {
      id = words.id;
      source = is_node known d.source e.0;
      target = is_node known d.target e.1;
      unit = words.unit;
      value = words.value;
      longest = words.longest;
      unit_number = n.unit;
      value_number = n.value;
      longest_number = n.longest;
    }

link_rows : (known : List (List ℕ)) (ls : List LinkEntry) → AllByRecursion (λ l. OnSymbols IsWord (link l)) ls → AllByRecursion (λ l. unknown_of_link known l ≡ None) ls → AllByRecursion (λ l. bad_of_link l ≡ None) ls
    → AllByRecursion (IsNetLink (length known)) (map (net_link known) ls)
link_rows known [] h e n = tt
link_rows known (l ∷ ls) h e n = (link_row known l h.0 e.0 n.0, link_rows known ls h.1 e.1 n.1)

demand_rows : (known : List (List ℕ)) (ds : List DemandEntry) → AllByRecursion (λ d. OnSymbols IsWord (demand d)) ds → AllByRecursion (λ d. unknown_of_demand known d ≡ None) ds → AllByRecursion (λ d. bad_of_demand d ≡ None) ds
    → AllByRecursion (IsNetDemand (length known)) (map (net_demand known) ds)
demand_rows known [] h e n = tt
demand_rows known (d ∷ ds) h e n = (demand_row known d h.0 e.0 n.0, demand_rows known ds h.1 e.1 n.1)

map-map : {X Y Z : Type 0} (f : Y → Z) (g : X → Y) (xs : List X) → map f (map g xs) ≡ map (λ x. f (g x)) xs
map-map f g [] = refl
map-map f g (x ∷ xs) = ap (λ ys. f (g x) ∷ ys) (map-map f g xs)

node_ids-net : (e : Entries) → texts (node_ids e) ≡ map (λ n. n.id) (map net_node e.nodes)
node_ids-net e = map-map (λ (w : Word). w.text) (λ (n : NodeEntry). n.id) e.nodes ∙ sym (map-map (λ (n : NetNode). n.id) net_node e.nodes)

link_ids-net : (known : List (List ℕ)) (e : Entries) → texts (link_ids e) ≡ map (λ l. l.id) (map (net_link known) e.links)
link_ids-net known e = map-map (λ (w : Word). w.text) (λ (l : LinkEntry). l.id) e.links ∙ sym (map-map (λ (l : NetLink). l.id) (net_link known) e.links)

demand_ids-net : (known : List (List ℕ)) (e : Entries) → texts (demand_ids e) ≡ map (λ d. d.id) (map (net_demand known) e.demands)
demand_ids-net known e = map-map (λ (w : Word). w.text) (λ (d : DemandEntry). d.id) e.demands ∙ sym (map-map (λ (d : NetDemand). d.id) (net_demand known) e.demands)

-- entries of words with nothing wrong give rows as they should be
pub rows_hold : (end : ℕ) (e : Entries) → AreWordEntries e → fault_of e ≡ None → AreNetRows (net_rows end e)
rows_hold end e words none =
    let sound = sound_parts e none in
    let known = texts (node_ids e) in
    let n_line = line_of (slice_get (node_ids e) MAX_NODES) in
    let l_line = line_of (slice_get (link_ids e) MAX_LINKS) in
    let d_line = line_of (slice_get (demand_ids e) MAX_DEMANDS) in
    let later = second_none n_line (or_else l_line d_line) sound.count in
    let n_twice = line_of (first_repeated [] (node_ids e)) in
    let l_twice = line_of (first_repeated [] (link_ids e)) in
    let d_twice = line_of (first_repeated [] (demand_ids e)) in
    let twice = second_none n_twice (or_else l_twice d_twice) sound.names in
    let l_ends = first_of (unknown_of_link known) e.links in
    let d_ends = first_of (unknown_of_demand known) e.demands in
    let l_bad = first_of bad_of_link e.links in
    let d_bad = first_of bad_of_demand e.demands in
    let size : length known ≡ length (map net_node e.nodes) = ap length (node_ids-net e) ∙ length-map (map net_node e.nodes) (λ (n : NetNode). n.id) in
    let ln = within (node_ids e) MAX_NODES (first_none n_line (or_else l_line d_line) sound.count) in
    let ll = within (link_ids e) MAX_LINKS (first_none l_line d_line later) in
    let ld = within (demand_ids e) MAX_DEMANDS (second_none l_line d_line later) in
    record {
      node_count = omega (arith, length-map e.nodes (λ (n : NodeEntry). n.id), length-map e.nodes net_node, ln);
      link_count = omega (arith, length-map e.links (λ (l : LinkEntry). l.id), length-map e.links (net_link known), ll);
      demand_count = omega (arith, length-map e.demands (λ (d : DemandEntry). d.id), length-map e.demands (net_demand known), ld);
      node_names = subst AreDistinct (node_ids-net e) (distinct (node_ids e) (first_none n_twice (or_else l_twice d_twice) sound.names));
      link_names = subst AreDistinct (link_ids-net known e) (distinct (link_ids e) (first_none l_twice d_twice twice));
      demand_names = subst AreDistinct (demand_ids-net known e) (distinct (demand_ids e) (second_none l_twice d_twice twice));
      nodes = All-from_recursion IsNetNode (map net_node e.nodes) (through net_node (λ n. OnSymbols IsWord (node n)) IsNetNode node_row e.nodes words.nodes);
      links = subst (λ (k : ℕ). All (IsNetLink k) (map (net_link known) e.links)) size (All-from_recursion (IsNetLink (length known)) (map (net_link known) e.links) (link_rows known e.links words.links (all_none (unknown_of_link known) e.links (first_none l_ends d_ends sound.ends)) (all_none bad_of_link e.links (first_none l_bad d_bad sound.numbers))));
      demands = subst (λ (k : ℕ). All (IsNetDemand k) (map (net_demand known) e.demands)) size (All-from_recursion (IsNetDemand (length known)) (map (net_demand known) e.demands) (demand_rows known e.demands words.demands (all_none (unknown_of_demand known) e.demands (second_none l_ends d_ends sound.ends)) (all_none bad_of_demand e.demands (second_none l_bad d_bad sound.numbers))));
    }

-- these entries of the text have nothing wrong, and the rows are theirs
record AreAccepted (text : List ℕ) (rows : NetRows) : Type 0 where
  found : Entries
  reads : read_of text ≡ Ok found
  sound : fault_of found ≡ None
  same : net_rows (end_of text) found ≡ rows

accepted : (text : List ℕ) (rows : NetRows) → rows_of text ≡ Ok rows → AreAccepted text rows
accepted text rows h =
    let go = elim (read_of text) as (λ (r : Result Entries NetRefusal). read_of text ≡ r → judged (end_of text) r ≡ Ok rows → AreAccepted text rows) [
      | Ok found ↦ λ e a.
          (let sound = elim (fault_of found) as (λ (o : Option NetRefusal). fault_of found ≡ o → unless_fault (end_of text) found o ≡ Ok rows → AreAccepted text rows) [
            | None ↦ λ none b. record { found = found; reads = e; sound = none; same = cc }
            | Some r ↦ λ some b. absurd cc
          ] in
          sound refl a)
      | Err r ↦ λ e a. absurd cc
    ] in
    go refl h

-- the rows of a text are as they should be
pub text_rows_hold : (text : List ℕ) (rows : NetRows) → rows_of text ≡ Ok rows → AreNetRows rows
text_rows_hold text rows h =
    let is = accepted text rows h in
    subst AreNetRows is.same (rows_hold (end_of text) is.found (text_words text is.found is.reads) is.sound)

-- their words are slices of the text's bytes
pub text_rows_slices : (text : List ℕ) (rows : NetRows) → rows_of text ≡ Ok rows → AreSlicesOf text rows
text_rows_slices text rows h =
    let is = accepted text rows h in
    subst (AreSlicesOf text) is.same (on_rows (IsSliceOf text) (end_of text) is.found (text_slices text is.found is.reads))
