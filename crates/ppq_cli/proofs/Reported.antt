-- A report is read back, so it belongs to one end; and so does a status, but for the numbers of an end.
use Rattle.std.proofs.Common.{◌≡◌, ℕ, ◌+◌, ◌<◌, ◌^◌, Bool, false, cond, ◌==◌, List, [], ◌∷◌, ◌++◌, drop, get_or, refl, sym, ap, ap₂, ◌∙◌, append_assoc}
use Rattle.std.specs.Prelude.{◌↔◌, codes, decimal, nat_lt}
use Rattle.std.specs.Char.{digit_value}
use Rattle.std.specs.Str.Parse.{AllDigits, digits_value}
use Rattle.std.proofs.lemmas.Bool.{lt-ltb}
use Rattle.std.proofs.lemmas.Fmt.{decimal_is_IsNumeral}
use Rattle.ppq_jobs.specs.ppq_engine.declared.end.End.{End}
use Rattle.ppq_jobs.specs.ppq_engine.declared.end.End.TheVariants.{Done, BadLine, Usage, ReadFault, WriteFault, DeviceFault, NoFreeBlock, BudgetTooSmall, Memory, FileChanged, NoDevice, NoScript, ScriptTooLong, BadAgenda, BadEdge}
use Rattle.ppq_cli.specs.Report.{report_of}
use Rattle.ppq_cli.specs.Status.{status_of}
use Rattle.ppq_cli.specs.Reported.{bare, HasNumbers}

-- the digits that a text begins with, and what is behind them
leading : List ℕ → List ℕ
leading [] = []
leading (c ∷ cs) = cond (nat_lt (digit_value c) 10) (c ∷ leading cs) []

behind : List ℕ → List ℕ
behind [] = []
behind (c ∷ cs) = cond (nat_lt (digit_value c) 10) (behind cs) (c ∷ cs)

leading-digits : (ds : List ℕ) (c : ℕ) (rest : List ℕ) → AllDigits 10 ds → nat_lt (digit_value c) 10 ≡ false → leading (ds ++ c ∷ rest) ≡ ds
unfolding leading
leading-digits [] c rest are ends = ap (λ (b : Bool). cond b (c ∷ leading rest) []) ends
leading-digits (d ∷ ds) c rest are ends = ap (λ (b : Bool). cond b (d ∷ leading (ds ++ c ∷ rest)) []) (lt-ltb (digit_value d) 10 are.0) ∙ ap (λ (t : List ℕ). d ∷ t) (leading-digits ds c rest are.1 ends)

behind-digits : (ds : List ℕ) (c : ℕ) (rest : List ℕ) → AllDigits 10 ds → nat_lt (digit_value c) 10 ≡ false → behind (ds ++ c ∷ rest) ≡ c ∷ rest
unfolding behind
behind-digits [] c rest are ends = ap (λ (b : Bool). cond b (behind rest) (c ∷ rest)) ends
behind-digits (d ∷ ds) c rest are ends = ap (λ (b : Bool). cond b (behind (ds ++ c ∷ rest)) (d ∷ (ds ++ c ∷ rest))) (lt-ltb (digit_value d) 10 are.0) ∙ behind-digits ds c rest are.1 ends

-- the number that a text begins with
abbrev number_in : List ℕ → ℕ
number_in text = digits_value 10 (leading text)

number-back : (n c : ℕ) (rest : List ℕ) → n < 2 ^ 64 → nat_lt (digit_value c) 10 ≡ false → number_in (decimal n ++ c ∷ rest) ≡ n
number-back n c rest fits ends = let is = decimal_is_IsNumeral n fits in ap (digits_value 10) (leading-digits (decimal n) c rest is.0.1 ends) ∙ is.1

rest-back : (n c : ℕ) (rest : List ℕ) → n < 2 ^ 64 → nat_lt (digit_value c) 10 ≡ false → behind (decimal n ++ c ∷ rest) ≡ c ∷ rest
rest-back n c rest fits ends = behind-digits (decimal n) c rest (decimal_is_IsNumeral n fits).0.1 ends

-- the end of a line's report behind its number, where three numbers or one stand
abbrev changed_in : ℕ → List ℕ → End
changed_in line rest = FileChanged line (number_in rest) (number_in (drop 6 (behind rest)))

abbrev of_line : ℕ → List ℕ → End
of_line line rest = cond (get_or rest 2 0 == 98) (BadLine line) (changed_in line (drop 21 rest))

-- the end of a report that begins `cannot`, or `no`, and of others, by their letters
abbrev of_cannot : ℕ → End
of_cannot c = cond (c == 114) ReadFault (cond (c == 119) WriteFault NoDevice)

abbrev of_no : ℕ → End
of_no c = cond (c == 102) NoFreeBlock NoScript

abbrev of_letter : ℕ → List ℕ → End
of_letter c text =
    cond (c == 108) (of_line (number_in (drop 10 text)) (behind (drop 10 text)))
    (cond (c == 117) Usage (cond (c == 99) (of_cannot (get_or text 12 0)) (cond (c == 100) (DeviceFault (number_in (drop 18 text)))
    (cond (c == 110) (of_no (get_or text 8 0)) (cond (c == 109) (BudgetTooSmall (number_in (drop 28 text))) (cond (c == 111) Memory
    (cond (c == 115) ScriptTooLong (cond (c == 98) BadAgenda (cond (c == 101) (BadEdge (number_in (drop 10 text))) Done)))))))))

abbrev end_in : List ℕ → End
end_in text = of_letter (get_or text 5 0) text

read-back : (end : End) → HasNumbers end → end_in (report_of end) ≡ end
read-back Done fits = refl
read-back (BadLine line) fits = ap₂ of_line (number-back line 58 (drop 1 (codes ": bad line\n")) fits refl) (rest-back line 58 (drop 1 (codes ": bad line\n")) fits refl)
read-back Usage fits = refl
read-back ReadFault fits = refl
read-back WriteFault fits = refl
read-back (DeviceFault number) fits = ap DeviceFault (number-back number 32 (drop 1 (codes " failed\n")) fits refl)
read-back NoFreeBlock fits = refl
read-back (BudgetTooSmall need) fits = ap BudgetTooSmall (number-back need 10 [] fits refl)
read-back Memory fits = refl
read-back (FileChanged line said got) fits =
    let last = decimal got ++ codes "\n" in
    let middle = (decimal said ++ codes ", got ") ++ last in
    let more : middle ≡ decimal said ++ (codes ", got " ++ last) = append_assoc (decimal said) (codes ", got ") last in
    let all : (decimal line ++ codes ": file changed, said ") ++ middle ≡ decimal line ++ (codes ": file changed, said " ++ middle) = append_assoc (decimal line) (codes ": file changed, said ") middle in
    ap₂ of_line (ap number_in all ∙ number-back line 58 _ fits.0 refl) (ap behind all ∙ rest-back line 58 _ fits.0 refl)
    ∙ ap₂ (FileChanged line) (ap number_in more ∙ number-back said 44 _ fits.1.0 refl) (ap (λ (t : List ℕ). number_in (drop 6 t)) (ap behind more ∙ rest-back said 44 _ fits.1.0 refl) ∙ number-back got 10 [] fits.1.1 refl)
read-back NoDevice fits = refl
read-back NoScript fits = refl
read-back ScriptTooLong fits = refl
read-back BadAgenda fits = refl
read-back (BadEdge at) fits = ap BadEdge (number-back at 32 (drop 1 (codes " is bad\n")) fits refl)

pub report-one : (one other : End) → HasNumbers one → HasNumbers other → report_of one ≡ report_of other → one ≡ other
report-one one other fits few same = sym (read-back one fits) ∙ ap end_in same ∙ read-back other few

-- the end of a status, without its numbers
abbrev end_of : ℕ → End
end_of status =
    cond (status == 1) (BadLine 0) (cond (status == 2) Usage (cond (status == 3) ReadFault (cond (status == 4) WriteFault (cond (status == 5) (DeviceFault 0)
    (cond (status == 6) NoFreeBlock (cond (status == 7) (BudgetTooSmall 0) (cond (status == 8) Memory (cond (status == 9) (FileChanged 0 0 0) (cond (status == 10) NoDevice
    (cond (status == 11) NoScript (cond (status == 12) ScriptTooLong (cond (status == 13) BadAgenda (cond (status == 14) (BadEdge 0) Done)))))))))))))

status-bare : (end : End) → (end_of (status_of end) ≡ bare end) × (status_of (bare end) ≡ status_of end)
status-bare Done = (refl, refl)
status-bare (BadLine line) = (refl, refl)
status-bare Usage = (refl, refl)
status-bare ReadFault = (refl, refl)
status-bare WriteFault = (refl, refl)
status-bare (DeviceFault number) = (refl, refl)
status-bare NoFreeBlock = (refl, refl)
status-bare (BudgetTooSmall need) = (refl, refl)
status-bare Memory = (refl, refl)
status-bare (FileChanged line said got) = (refl, refl)
status-bare NoDevice = (refl, refl)
status-bare NoScript = (refl, refl)
status-bare ScriptTooLong = (refl, refl)
status-bare BadAgenda = (refl, refl)
status-bare (BadEdge at) = (refl, refl)

pub status-one : (one other : End) → (status_of one ≡ status_of other) ↔ (bare one ≡ bare other)
status-one one other = (λ same. sym (status-bare one).0 ∙ ap end_of same ∙ (status-bare other).0, λ same. sym (status-bare one).1 ∙ ap status_of same ∙ (status-bare other).1)
