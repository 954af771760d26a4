-- What a run of `tighten` wrote is the best certificate, is judged valid, and stays.
use Rattle.std.proofs.Common.{◌≡◌, ◌⊎◌, ℕ, List, [], ◌∷◌, Option, Some, None, Result, Ok, inl, inr, refl, sym, ap, subst, ◌∙◌, arith}
use Rattle.std.specs.Prelude.{All, if◌then◌else◌}
use Rattle.std.proofs.lemmas.List.Elements.{All-cons, All-weaker}
use Rattle.mcf_base.specs.Shelf.{Holding, ShelfView, with_file}
use Rattle.flow_paths.specs.declared.certificate.Proof.{Proof}
use Rattle.flow_paths.specs.Certificate.{IsValid}
use Rattle.sndlib_grammar.specs.Rows.{NetRows}
use Rattle.sndlib_grammar.specs.Net.{rows_of}
use Rattle.unit_scale.specs.Scaling.{ScaledNet}
use Rattle.cut_bound.specs.Tightened.{IsCertificateOf}
use Rattle.cut_bound.proofs.Staying.{stays}
use Rattle.cert_lines.specs.Sheet.{sheet_of}
use Rattle.cert_lines.specs.declared.form.Form.TheVariants.{Second as FormSecond}
use Rattle.cert_text.specs.declared.opening.Known.TheVariants.{Both}
use Rattle.cert_text.specs.declared.papers.Paper.{Paper}
use Rattle.cert_text.specs.declared.papers.Paper.TheVariants as papers
use Rattle.cert_writer.specs.Text.{certificate_text}
use Rattle.cert_judge.specs.declared.judged.Judged.{Judged}
use Rattle.cert_judge.specs.declared.judged.Judged.TheVariants as judges
use Rattle.cert_judge.specs.declared.certifying.Certified.{Certified}
use Rattle.cert_judge.specs.declared.certifying.Certified.TheVariants as certs
use Rattle.cert_judge.specs.declared.refusal.Refusal.{Refusal}
use Rattle.cert_judge.specs.declared.second.Second.{Second}
use Rattle.cert_judge.specs.declared.second.Second.TheVariants as seconds
use Rattle.cert_judge.specs.Certified.{IsCertificate, OnCertificate as CertOnCertificate}
use Rattle.cert_judge.specs.Judgement.{IsJudgement}
use Rattle.cert_judge.specs.Papers.{IsReadOf, paper_on}
use Rattle.cert_judge.specs.Second.{with_net}
use Rattle.cert_judge.proofs.KnownHeaders.{reads}
use Rattle.cert_inverse.specs.Judging.{valid_of}
use Rattle.cert_inverse.proofs.JudgedTexts.{modes_of, valid_certificate, written_read}
use Rattle.cert_inverse.proofs.NetworkWords.{citable}
use Rattle.mcf_words.specs.declared.request.Command.TheVariants as commands
use Rattle.mcf_words.specs.declared.request.Request.{Request}
use Rattle.base_cmd.specs.declared.ended.Ended.{Ended}
use Rattle.base_cmd.specs.Answer.{Answer}
use Rattle.cert_cmd.specs.Tighten.{IsBestOf, WritesBest, go_both_ways, OnBoth, OnFirst, OnFirstRead}
use Rattle.cert_cmd.proofs.BestCertificates.{best_certificate, better_of, given_of, ways_of}
use Rattle.mcf_cli.specs.Run.{file_at, file_if}
use Rattle.cli_laws.specs.Accepted.{IsNetFile, IsPaperFile}
use Rattle.cli_laws.specs.Tightened.{TellsFirst, TellsSecond, TellsFault, AreOthers, Tightens, TightenedRunsAreBest, ChecksBest, TightenedRunsCheck, IsTightenedAgain, TightenedRunsStay}
use Rattle.cli_laws.proofs.Answered.{file_read}
use Rattle.cli_laws.proofs.Asked.{IsFirstRead, first_read, no_fault, second_read}
use Rattle.cli_laws.proofs.Checking.{RunAnswer, checked, run_answered}
use Rattle.cli_laws.proofs.Given.{ends_full}

-- ---- what a run wrote

module _ (files : Holding) (request : Request) (text : List ℕ) (ended : Ended) (a : RunAnswer commands.Tighten 1 files request text ended) (r : IsFirstRead files request a.old a.new a.answer) where
  abbrev mid : ShelfView
  mid = with_file (with_file a.old (file_at request 0)) (file_at request 1)

  abbrev Told : Type 0
  Told = TellsFault files request text ⊎ Tightens files request text ended

  best_told : (others : List Proof) → AreOthers files (file_if request 2) r.rows r.net others → All (IsCertificate r.rows r.net) (r.proof ∷ others)
      → WritesBest r.rows r.net r.proof others a.answer → Told
  best_told others are all (best, is, same) = inr (record {
    rows = r.rows;
    net_file = r.net_file;
    net = r.net;
    first = r.proof;
    cert_file = r.cert_file;
    others = others;
    are_others = are;
    given = all;
    best = best;
    is_best = is;
    certificate = best_certificate r.rows r.net r.proof others best all is;
    no_worse = (better_of r.rows r.net r.proof others best all is).no_worse;
    is = a.text_is ∙ ap (λ (x : Answer). x.text) same;
    status = a.status_is ∙ ap (λ (x : Answer). x.status) same;
  })

  second_told : (name : List ℕ) → file_if request 2 ≡ Some name → IsCertificate r.rows r.net r.proof → (proof : Proof) → IsPaperFile files name r.rows r.net (papers.Full proof)
      → (second : Second) → CertOnCertificate r.rows r.net proof (with_net r.net second) → OnBoth r.rows r.net r.proof second a.answer → Told
  second_told name named first proof file (seconds.Valid p) is on =
      let others : AreOthers files (file_if request 2) r.rows r.net (proof ∷ []) =
      subst (λ (o : Option (List ℕ)). AreOthers files o r.rows r.net (proof ∷ [])) (sym named) (proof, file, refl) in
      let writes : WritesBest r.rows r.net r.proof (proof ∷ []) a.answer = subst (λ (q : Proof). WritesBest r.rows r.net r.proof (q ∷ []) a.answer) is.1 on in
      best_told (proof ∷ []) others
      (All-cons (IsCertificate r.rows r.net) r.proof (proof ∷ []) first (All-cons (IsCertificate r.rows r.net) proof [] is.2 (λ i d l. absurd (omega arith))))
      writes
  second_told name named first proof file (seconds.Invalid fault) is on = inl (inr (record {
    rows = r.rows;
    net_file = r.net_file;
    net = r.net;
    first = r.proof;
    cert_file = r.cert_file;
    valid = first.valid;
    name = name;
    named = named;
    second = proof;
    second_file = file;
    fault = fault;
    fails = is;
    is = a.text_is ∙ ap (λ (x : Answer). x.text) on;
  }))
  second_told name named first proof file (seconds.Refused x) is on = absurd is

  first_told : (second : Option (List ℕ)) → file_if request 2 ≡ second → IsCertificate r.rows r.net r.proof → OnFirst r.rows second r.net r.proof mid a.new a.answer → Told
  first_told None named first of =
      best_told [] (subst (λ (o : Option (List ℕ)). AreOthers files o r.rows r.net []) (sym named) refl)
      (All-cons (IsCertificate r.rows r.net) r.proof [] first (λ i d l. absurd (omega arith)))
      (ends_full (WritesBest r.rows r.net r.proof []) mid a.new a.answer a.low of)
  first_told (Some name) named first of =
      let s = second_read files name r.rows r.net r.proof mid a.new a.answer a.tells r.scaled a.low of in
      second_told name named first s.0 s.1 s.2 s.3 s.4

  all_told : (certified : Certified) → CertOnCertificate r.rows r.net r.proof certified → OnFirstRead r.rows (file_if request 2) certified mid a.new a.answer → Told
  all_told (certs.Valid n p) is on =
      let moved : OnFirst r.rows (file_if request 2) r.net p mid a.new a.answer = subst (λ (m : ScaledNet). OnFirst r.rows (file_if request 2) m p mid a.new a.answer) is.0 on in
      let same : OnFirst r.rows (file_if request 2) r.net r.proof mid a.new a.answer = subst (λ (q : Proof). OnFirst r.rows (file_if request 2) r.net q mid a.new a.answer) is.1 moved in
      first_told (file_if request 2) refl is.2 same
  all_told (certs.Said (judges.Invalid fault)) is on = inl (inl (record {
    rows = r.rows;
    net_file = r.net_file;
    net = r.net;
    proof = r.proof;
    cert_file = r.cert_file;
    fault = fault;
    fails = is;
    is = a.text_is ∙ ap (λ (x : Answer). x.text) on.0;
  }))
  all_told (certs.Said (judges.NetRefused x)) is on = absurd is
  all_told (certs.Said (judges.CertRefused x)) is on = absurd is
  all_told (certs.Said (judges.Feasible o v)) is on = absurd is
  all_told (certs.Said (judges.Valid o c l u)) is on = absurd is

pub are_best : TightenedRunsAreBest
are_best files request text ended run =
    let a = run_answered commands.Tighten 1 files request text ended (omega arith) run in
    let r = first_read files request a.old a.new a.answer a.tells a.low a.of in
    all_told files request text ended a r r.certified r.is r.on

-- ---- it is judged valid

pub best_checks : TightenedRunsCheck
best_checks files again tighten check text first second before after run checks = by (are_best files tighten text first run)
  where
    by : TellsFault files tighten text ⊎ Tightens files tighten text first → TellsFault files tighten text ⊎ ChecksBest files tighten text first before after second
    by (inl fault) = inl fault
    by (inr t) =
        let c = t.certificate in
        let says : (judged : Judged) → IsJudgement t.rows text judged → judged ≡ valid_of t.net t.best = λ judged is.
        valid_certificate t.rows t.net t.best judged c.names c.counted c.fits c.valid (subst (λ (x : List ℕ). IsJudgement t.rows x judged) t.is is) in
        inr (record { tightens = t; told = checked files again tighten check text before after second t.rows t.net t.best t.net_file says checks })

-- ---- and stays

some_same : {A : Type 0} (x y : A) → Some x ≡ Some y → x ≡ y
some_same x y e = cc

ok_same : {T E : Type 0} (r : Result T E) (x y : T) → r ≡ Ok x → r ≡ Ok y → x ≡ y
ok_same r x y h k = cc

full_same : (p q : Proof) → papers.Full p ≡ papers.Full q → p ≡ q
full_same p q e = cc

-- a network's file of the same content has the same rows
net_same : (files again : Holding) (a b : List ℕ) (rows other : NetRows) → again b ≡ files a → IsNetFile files a rows → IsNetFile again b other → other ≡ rows
net_same files again a b rows other same given mine =
    let texts : mine.text ≡ given.text = some_same mine.text given.text (sym mine.given.file ∙ same ∙ given.given.file) in
    let read : rows_of given.text ≡ Ok other = subst (λ (t : List ℕ). rows_of t ≡ Ok other) texts mine.read in
    ok_same (rows_of given.text) other rows read given.read

-- a file that is the text of a certificate is read as it, and as nothing else
paper_same : (again : Holding) (name : List ℕ) (rows : NetRows) (net m : ScaledNet) (p q : Proof) (text : List ℕ) → again name ≡ Some text → text ≡ certificate_text (sheet_of rows net) p
    → IsCertificate rows net p → IsPaperFile again name rows m (papers.Full q) → (m ≡ net) × (q ≡ p)
paper_same again name rows net m p q text holds is c file =
    let texts : file.text ≡ certificate_text (sheet_of rows net) p = some_same file.text text (sym file.given.file ∙ holds) ∙ is in
    let mine : paper_on Both rows file.text ≡ Ok (m, papers.Full q) = reads Both rows file.text m (papers.Full q) (file_read again name rows m (papers.Full q) file) in
    let moved : paper_on Both rows (certificate_text (sheet_of rows net) p) ≡ Ok (m, papers.Full q) = subst (λ (t : List ℕ). paper_on Both rows t ≡ Ok (m, papers.Full q)) texts mine in
    let back : IsReadOf Both rows (certificate_text (sheet_of rows net) p) net (papers.Full p) =
    written_read rows net FormSecond (papers.Full p) c.names (citable rows net c.names c.counted) (modes_of rows net) c.fits in
    let theirs : paper_on Both rows (certificate_text (sheet_of rows net) p) ≡ Ok (net, papers.Full p) =
    reads Both rows (certificate_text (sheet_of rows net) p) net (papers.Full p) back in
    let e : (m, papers.Full q) ≡ (net, papers.Full p) = ok_same {T = ScaledNet × Paper} {E = Refusal} (paper_on Both rows (certificate_text (sheet_of rows net) p)) (m, papers.Full q) (net, papers.Full p) moved theirs in
    (ap (λ (x : ScaledNet × Paper). x.0) e, full_same q p (ap (λ (x : ScaledNet × Paper). x.1) e))

no_name : (name : List ℕ) → None ≡ Some name → ⊥
no_name name e = cc

module _ (files again : Holding) (tighten other : Request) (text more : List ℕ) (first second : Ended) (t : Tightens files tighten text first) (run : IsTightenedAgain files again tighten other text more second) where
  same_rows : (rows : NetRows) → IsNetFile again (file_at other 0) rows → rows ≡ t.rows
  same_rows rows file = net_same files again (file_at tighten 0) (file_at other 0) t.rows rows run.network t.net_file file

  same_paper : (rows : NetRows) (net : ScaledNet) (proof : Proof) → IsNetFile again (file_at other 0) rows → IsPaperFile again (file_at other 1) rows net (papers.Full proof) → (net ≡ t.net) × (proof ≡ t.best)
  same_paper rows net proof file paper =
      let moved = subst (λ (x : NetRows). IsPaperFile again (file_at other 1) x net (papers.Full proof)) (same_rows rows file) paper in
      paper_same again (file_at other 1) t.rows t.net net t.best proof text run.certificate t.is t.certificate moved

  no_first : TellsFirst again other more → ⊥
  no_first f =
      let same = same_paper f.rows f.net f.proof f.net_file f.cert_file in
      let valid : IsValid f.net.net f.proof = subst (λ (n : ScaledNet). IsValid n.net f.proof) (sym same.0) (subst (IsValid t.net.net) (sym same.1) t.certificate.valid) in
      no_fault f.net.net f.proof valid f.fault f.fails

  no_second : TellsSecond again other more → ⊥
  no_second s = no_name s.name (sym run.alone ∙ s.named)

  again_same : Tightens again other more second → (more ≡ text) × (second.status ≡ first.status)
  again_same u =
      let same = same_paper u.rows u.net u.first u.net_file u.cert_file in
      let none : u.others ≡ [] = subst (λ (o : Option (List ℕ)). AreOthers again o u.rows u.net u.others) run.alone u.are_others in
      let a : IsBestOf t.net u.first u.others u.best = subst (λ (n : ScaledNet). IsBestOf n u.first u.others u.best) same.0 u.is_best in
      let b : IsBestOf t.net t.best u.others u.best = subst (λ (p : Proof). IsBestOf t.net p u.others u.best) same.1 a in
      let c : IsBestOf t.net t.best [] u.best = subst (λ (ps : List Proof). IsBestOf t.net t.best ps u.best) none b in
      let givens : All (IsCertificateOf t.net.net) (t.first ∷ t.others) =
      All-weaker (IsCertificate t.rows t.net) (IsCertificateOf t.net.net) (given_of t.rows t.net) (t.first ∷ t.others) t.given in
      let best : u.best ≡ t.best = stays t.net.net (go_both_ways t.net.options.links) t.first t.others t.best u.best t.certificate.network (ways_of t.rows t.net t.certificate.names) givens t.is_best c in (
        u.is ∙ ap (λ (p : Proof). certificate_text (sheet_of u.rows u.net) p) best ∙ ap (λ (n : ScaledNet). certificate_text (sheet_of u.rows n) t.best) same.0
            ∙ ap (λ (x : NetRows). certificate_text (sheet_of x t.net) t.best) (same_rows u.rows u.net_file) ∙ sym t.is,
        u.status ∙ ap (λ (p : Proof). if p.closed then 0 else 1) best ∙ sym t.status,
      )

pub best_stays : TightenedRunsStay
best_stays files again tighten other text more first second run later = by (are_best files tighten text first run)
  where
    last : Tightens files tighten text first → TellsFault again other more ⊎ Tightens again other more second → (more ≡ text) × (second.status ≡ first.status)
    last t (inl (inl f)) = absurd (no_first files again tighten other text more first second t later f)
    last t (inl (inr s)) = absurd (no_second files again tighten other text more first second t later s)
    last t (inr u) = again_same files again tighten other text more first second t later u

    by : TellsFault files tighten text ⊎ Tightens files tighten text first → TellsFault files tighten text ⊎ ((more ≡ text) × (second.status ≡ first.status))
    by (inl fault) = inl fault
    by (inr t) = inr (last t (are_best again other more second later.run))
