-- Labels computed: numbers, names, rows that are cut.
use mathlib.Core.Path.{◌≡◌, refl}
use mathlib.Core.List.{[], ◌++◌}
use lib.IntN.{pos, negsuc}
use Rattle.ints.specs.Lists.{sum, greatest}
use Rattle.text.specs.Bytes.{bytes}
use Rattle.text.specs.Decimal.{decimal, digits}
use Rattle.script_words.specs.Parts.{parts}
use Rattle.picture_numbers.specs.Thousandths.{places, fraction, amount, thousandths, across, down}
use Rattle.picture_rows.specs.Escape.{escaped_byte, escaped}
use Rattle.picture_rows.specs.Rows.{columns_of, columns, widest, last_of, longest, cut_end, rows}
use Rattle.picture_labels.specs.Label.{offset, start_of, element_of, sign, elements, number_size, name_size, rows_of, label_of}

-- all that a label rests on
unfoldable numbers_opened : Unit {0}
unfolding across down amount thousandths fraction places decimal digits
numbers_opened = tt

unfoldable rows_opened : Unit {0}
unfolding escaped escaped_byte rows cut_end longest last_of widest greatest columns columns_of sum parts
rows_opened = tt

unfoldable opened : Unit {0}
unfolding numbers_opened rows_opened label_of rows_of name_size number_size elements element_of start_of offset
opened = tt

pub label-1 : label_of (negsuc 4) 12 3 7 42 []
    ≡ (bytes "<text x=\"-2.5\" y=\"12\" dy=\".35em\" font-size=\"1.4\">42</text>")
unfolding opened
label-1 = refl

pub label-2 : label_of (pos 8) 0 1 10000 1023 []
    ≡ (bytes "<text x=\"4\" y=\"0\" dy=\".35em\" font-size=\"0.75\">1023</text>")
unfolding opened
label-2 = refl

pub label-3 : label_of (pos 7) 36 4 8 0 (bytes "Tea & cake")
    ≡ (bytes "<text x=\"3.5\" y=\"36\" dy=\".35em\" font-size=\"0.8\">Tea &amp; cake</text>")
unfolding opened
label-3 = refl

pub label-4 : label_of (pos 0) 5 20 60 3 (bytes "Warehouse management and control systems")
    ≡ (bytes "<text x=\"0\" y=\"5\" dy=\"-.85em\" font-size=\"6\">Warehouse</text>"
    ++ bytes "<text x=\"0\" y=\"5\" dy=\".35em\" font-size=\"6\">management</text>"
    ++ bytes "<text x=\"0\" y=\"5\" dy=\"1.55em\" font-size=\"6\">and contr" ++ sign ++ bytes "</text>")
unfolding opened
label-4 = refl

pub label-5 : label_of (negsuc 1099511627775) 630000 200 10000 9 (bytes "Incomprehensibilities of <b>")
    ≡ (bytes "<text x=\"-549755813888\" y=\"630000\" dy=\"-.25em\" font-size=\"50\">Incomprehen" ++ sign ++ bytes "</text>"
    ++ bytes "<text x=\"-549755813888\" y=\"630000\" dy=\".95em\" font-size=\"50\">of &lt;b&gt;</text>")
unfolding opened
label-5 = refl
